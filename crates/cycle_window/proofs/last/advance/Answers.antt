use Rattle.std.proofs.Common.{◌∙◌, ◌++◌, sym, ap, arith, List, subst}
use Rattle.vcd_reader.specs.declared.step.Change.{Change}
use Rattle.vcd_reader.specs.declared.step.Step.{Step}
use Rattle.cycle_window.specs.Changes.{changes_to, IsTable}
use Rattle.cycle_window.proofs.LastLaws.{changes_to-more}
use Rattle.cycle_window.proofs.last.advance.Goals as goal

pub loop-at-preserved : goal.loop-at-preserved
loop-at-preserved c = record {
  inside = omega arith;
  long = c.enter.ensures.long ∙ c.loop-at.invariant.long;
  low = omega arith;
  short = λ le. omega arith;
  table = λ table.
      let entered =
      c.enter.ensures.table (changes_to c.args.steps.now c.loop-at.at)
      (c.loop-at.invariant.table table) in
      let at = c.index-steps-at.is in
      let value = c.deref.ensures.value in
      let same =
      ap (λ (xs : List Change). changes_to c.args.steps.now c.loop-at.at ++ xs)
      (value ∙ ap (λ (s : Step). s.changes.items) (sym at))
      ∙ sym (changes_to-more c.args.steps.now c.loop-at.at c.index-steps-at.result
      c.if-at-steps.true at) in
      subst (λ (xs : List Change). IsTable c.enter.new.last xs) same entered;
}
