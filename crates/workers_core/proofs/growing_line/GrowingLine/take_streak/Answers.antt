use Rattle.std.proofs.Common.{◌++◌, filter_map, sym, ap, ◌∙◌, arith, length-append}
use Rattle.std.proofs.lemmas.List.Elements.{filter_map-append}
use Rattle.std.proofs.lemmas.List.FromFn.{length-map-range_with_len}
use Rattle.machine_batches.specs.Ages.{nth}
use Rattle.machine_batches.specs.Lines.{failure_of}
use Rattle.machine_batches.specs.Streaks.{streak_attempts}
use Rattle.workers_core.proofs.StreakLaws as laws
use Rattle.workers_core.proofs.growing_line.GrowingLine.take_streak.Goals as goal

pub returns-clause-took : goal.returns-clause-took
returns-clause-took c = λ before took.
    let s = c.args.streak.now in
    let more = streak_attempts s in
    record {
      counts = c.counts_with-self.ensures.more ∙ laws.more-tally before s c.args.self.now.counts took.counts;
      fails = c.in_ok-push_failures.ensures
          ∙ ap (λ l. l ++ filter_map failure_of more) took.fails
          ∙ sym (filter_map-append failure_of before more);
      many = omega (
        arith,
        c.counts_with-self.ensures.all,
        took.many,
        length-append before more,
        length-map-range_with_len (nth s.first) 0 s.count,
      );
    }
