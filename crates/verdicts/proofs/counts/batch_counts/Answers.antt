use Rattle.std.proofs.Common.{◌≡◌, ◌+◌, ◌≤◌, ◌^◌, ℕ, List, ap, arith}
use Rattle.std.specs.Prelude.{slice_index_or}
use Rattle.report_lines.specs.Tallies.{is_holds, is_vacuous, is_fails, is_disabled}
use Rattle.machine_batches.specs.Streaks.{attempts_in_all}
use Rattle.verdicts.specs.Counts.{count_of}
use Rattle.verdicts.proofs.StreakCounts as laws
use Rattle.verdicts.proofs.counts.batch_counts.Goals as goal

pub overflow_add-holds : goal.overflow_add-holds
overflow_add-holds c =
    let xs = c.as_slice-streak-items.result.now in
    let s = c.streak-item.result in
    let i = c.loop-streak.streak-index in
    let one = ap (λ (ns : List ℕ). slice_index_or ns 0 0) c.streak_counts-counts.ensures in
    let more = laws.counts-more is_holds xs i s c.loop-streak-test.true c.streak-item.is in
    let few = laws.counts-few is_holds xs (i + 1) in
    let all = ap (count_of is_holds) c.as_slice-streak-items.ensures in
    let fits : count_of is_holds c.args.batch.now.decided.items ≤ 2 ^ 56 = c.requires.0 in
    omega (arith, c.loop-streak.invariant.holds, one, more, few, all, fits)

pub overflow_add-vacuous : goal.overflow_add-vacuous
overflow_add-vacuous c =
    let xs = c.as_slice-streak-items.result.now in
    let s = c.streak-item.result in
    let i = c.loop-streak.streak-index in
    let one = ap (λ (ns : List ℕ). slice_index_or ns 1 0) c.streak_counts-counts.ensures in
    let more = laws.counts-more is_vacuous xs i s c.loop-streak-test.true c.streak-item.is in
    let few = laws.counts-few is_vacuous xs (i + 1) in
    let all = ap (count_of is_vacuous) c.as_slice-streak-items.ensures in
    let fits : count_of is_vacuous c.args.batch.now.decided.items ≤ 2 ^ 56 = c.requires.1 in
    omega (arith, c.loop-streak.invariant.vacuous, one, more, few, all, fits)

pub overflow_add-fails : goal.overflow_add-fails
overflow_add-fails c =
    let xs = c.as_slice-streak-items.result.now in
    let s = c.streak-item.result in
    let i = c.loop-streak.streak-index in
    let one = ap (λ (ns : List ℕ). slice_index_or ns 2 0) c.streak_counts-counts.ensures in
    let more = laws.counts-more is_fails xs i s c.loop-streak-test.true c.streak-item.is in
    let few = laws.counts-few is_fails xs (i + 1) in
    let all = ap (count_of is_fails) c.as_slice-streak-items.ensures in
    let fits : count_of is_fails c.args.batch.now.decided.items ≤ 2 ^ 56 = c.requires.2 in
    omega (arith, c.loop-streak.invariant.fails, one, more, few, all, fits)

pub overflow_add-disabled : goal.overflow_add-disabled
overflow_add-disabled c =
    let xs = c.as_slice-streak-items.result.now in
    let s = c.streak-item.result in
    let i = c.loop-streak.streak-index in
    let one = ap (λ (ns : List ℕ). slice_index_or ns 3 0) c.streak_counts-counts.ensures in
    let more = laws.counts-more is_disabled xs i s c.loop-streak-test.true c.streak-item.is in
    let few = laws.counts-few is_disabled xs (i + 1) in
    let all = ap (count_of is_disabled) c.as_slice-streak-items.ensures in
    let fits : count_of is_disabled c.args.batch.now.decided.items ≤ 2 ^ 56 = c.requires.3 in
    omega (arith, c.loop-streak.invariant.disabled, one, more, few, all, fits)

pub loop-streak-preserved : goal.loop-streak-preserved
loop-streak-preserved c =
    let xs = c.as_slice-streak-items.result.now in
    let s = c.streak-item.result in
    let i = c.loop-streak.streak-index in
    let below = c.loop-streak-test.true in
    let inv = c.loop-streak.invariant in
    let holds = ap (λ (ns : List ℕ). slice_index_or ns 0 0) c.streak_counts-counts.ensures in
    let vacuous = ap (λ (ns : List ℕ). slice_index_or ns 1 0) c.streak_counts-counts.ensures in
    let fails = ap (λ (ns : List ℕ). slice_index_or ns 2 0) c.streak_counts-counts.ensures in
    let disabled = ap (λ (ns : List ℕ). slice_index_or ns 3 0) c.streak_counts-counts.ensures in
    record {
      holds = omega (arith, inv.holds, holds, laws.counts-more is_holds xs i s below c.streak-item.is);
      vacuous = omega (arith, inv.vacuous, vacuous, laws.counts-more is_vacuous xs i s below c.streak-item.is);
      fails = omega (arith, inv.fails, fails, laws.counts-more is_fails xs i s below c.streak-item.is);
      disabled = omega (arith, inv.disabled, disabled, laws.counts-more is_disabled xs i s below c.streak-item.is);
    }
