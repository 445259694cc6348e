use Rattle.std.proofs.Common.{List, ◌++◌, filter_map, sym, ap, ◌∙◌, arith, length-append}
use Rattle.std.proofs.lemmas.List.Elements.{filter_map-append}
use Rattle.report_lines.specs.declared.line.Failure.{Failure}
use Rattle.machine_batches.specs.Lines.{failure_of, attempts_of}
use Rattle.workers_core.proofs.StreakLaws as laws
use Rattle.workers_core.proofs.growing_line.GrowingLine.take_line.Goals as goal

pub returns : goal.returns
returns c = record {
  took = λ before after first second. record {
    counts = c.plus-self.ensures
        ∙ laws.sum-below c.args.self.now.counts c.args.other.now.counts c.requires
        ∙ laws.both-tally before after c.args.self.now.counts c.args.other.now.counts first.counts second.counts;
    fails = c.in_ok-extend_from_slice.ensures.items
        ∙ ap (λ (fs : List Failure). c.args.self.now.fails.items ++ fs) c.deref.ensures.value
        ∙ ap (λ (fs : List Failure). fs ++ c.args.other.now.fails.items) first.fails
        ∙ ap (λ (fs : List Failure). filter_map failure_of before ++ fs) second.fails
        ∙ sym (filter_map-append failure_of before after);
    many = omega (
      arith,
      ap attempts_of c.plus-self.ensures,
      ap attempts_of (laws.sum-below c.args.self.now.counts c.args.other.now.counts c.requires),
      laws.both-attempts c.args.self.now.counts c.args.other.now.counts,
      first.many,
      second.many,
      length-append before after,
    );
  };
}
