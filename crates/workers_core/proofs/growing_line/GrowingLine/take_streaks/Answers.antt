use Rattle.std.proofs.Common.{◌+◌, ◌++◌, List, take, length, sym, ap, ◌∙◌, subst, arith}
use Rattle.std.proofs.Common.{append_assoc, length-append}
use Rattle.std.proofs.lemmas.List.FromFn.{length-map-range_with_len}
use Rattle.signals.specs.declared.verdict.Decided.{Decided}
use Rattle.machine_batches.specs.Ages.{nth}
use Rattle.machine_batches.specs.Streaks.{streak_attempts, attempts_in_all}
use Rattle.machine_batches.proofs.StreakLaws.{streak-more}
use Rattle.workers_core.specs.Taken.{TookIn}
use Rattle.workers_core.proofs.StreakLaws.{streaks-few}
use Rattle.workers_core.proofs.growing_line.GrowingLine.take_streaks.Goals as goal

pub take_streak-requires : goal.take_streak-requires
take_streak-requires c =
    let xs = c.as_slice-streak-items.result.now in
    let s = c.streak-item.result in
    let i = c.loop-streak.streak-index in
    let more =
    ap (λ (ds : List Decided). length ds)
    (streak-more xs i s c.loop-streak-test.true c.streak-item.is) in
    let both = length-append (attempts_in_all (take i xs)) (streak_attempts s) in
    let own = length-map-range_with_len (nth s.first) 0 s.count in
    let few = streaks-few xs (i + 1) in
    let all = ap (λ (ds : List Decided). length ds) c.as_slice-streak-items.ensures in
    omega (arith, c.loop-streak.invariant.count, more, both, own, few, all, c.requires)

pub loop-streak-preserved : goal.loop-streak-preserved
loop-streak-preserved c =
    let xs = c.as_slice-streak-items.result.now in
    let s = c.streak-item.result in
    let i = c.loop-streak.streak-index in
    let inv = c.loop-streak.invariant in
    let step = c.in_ok-take_streak.ensures in
    let so_far = attempts_in_all (take i xs) in
    let one = streak-more xs i s c.loop-streak-test.true c.streak-item.is in
    let more = ap (λ (ds : List Decided). length ds) one in
    let both = length-append so_far (streak_attempts s) in
    let own = length-map-range_with_len (nth s.first) 0 s.count in
    record {
      count = omega (arith, inv.count, step.count, more, both, own);
      took = λ before took.
          subst (TookIn c.take_streak.new.self)
          (append_assoc before so_far (streak_attempts s)
          ∙ ap (λ (ds : List Decided). before ++ ds) (sym one))
          (step.took (before ++ so_far) (inv.took before took));
    }
