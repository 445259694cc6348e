use Rattle.std.proofs.Common.{map, drop, List}
use Rattle.parser_grammar.specs.ReadSequences.{steps_of, others_of}
use Rattle.parser_grammar.specs.Views.{sequence_of, delay_step_of}
use Rattle.expressions.specs.declared.expr.Expr.{Expr}
use Rattle.assertions.specs.declared.sequence.Boolean.{Boolean}
use Rattle.types.specs.Drafts.{Draft}
use Rattle.types.specs.Views.{draft_of}
use Rattle.types_names.specs.Views.{scope_of, columns_in}
use Rattle.types.specs.Readings.{ReadsSteps, ReadsOthers}
use Rattle.types.specs.Placed.{ExtendsPlaces}
use Rattle.types.proofs.ReadingLaws.{AreReadySteps, AreReadyOthers}
use Rattle.types.proofs.drafts.+drafts.Given as goal

abbrev pub invariant-with_steps-loop-step : goal.invariant-with_steps-loop-step
invariant-with_steps-loop-step l = record {
  ready : AreReadySteps (scope_of l.scope) (columns_in l.columns)
      (steps_of (map delay_step_of (drop l.step-index l.steps)));
  grows : ExtendsPlaces l.fn.booleans.items l.booleans.items;
  reads : (later : List Expr) → ExtendsPlaces l.booleans.items later → (d : Draft Boolean) →
      ReadsSteps (scope_of l.scope) (columns_in l.columns) later (draft_of l.whole.value)
      (steps_of (map delay_step_of (drop l.step-index l.steps))) d →
      ReadsSteps (scope_of l.scope) (columns_in l.columns) later (draft_of l.fn.first.value)
      (steps_of (map delay_step_of l.steps)) d;
}

abbrev pub invariant-with_others-loop-other : goal.invariant-with_others-loop-other
invariant-with_others-loop-other l = record {
  ready : AreReadyOthers (scope_of l.scope) (columns_in l.columns)
      (others_of (map sequence_of (drop l.other-index l.others)));
  grows : ExtendsPlaces l.fn.booleans.items l.booleans.items;
  reads : (later : List Expr) → ExtendsPlaces l.booleans.items later → (d : Draft Boolean) →
      ReadsOthers (scope_of l.scope) (columns_in l.columns) later l.junction (draft_of l.whole.value)
      (others_of (map sequence_of (drop l.other-index l.others))) d →
      ReadsOthers (scope_of l.scope) (columns_in l.columns) later l.junction (draft_of l.fn.first.value)
      (others_of (map sequence_of l.others)) d;
}
