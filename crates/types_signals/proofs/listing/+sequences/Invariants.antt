use Rattle.std.proofs.Common.{◌≡◌, map, drop}
use Rattle.parser_grammar.specs.ReadSequences.{steps_of, others_of}
use Rattle.parser_grammar.specs.Views.{sequence_of, delay_step_of}
use Rattle.types_names.specs.Columns.{with_paths, step_signals, other_signals}
use Rattle.types_names.specs.Views.{scope_of, columns_in}
use Rattle.types_signals.proofs.listing.+sequences.Given as goal

abbrev pub invariant-list_steps-loop-step : goal.invariant-list_steps-loop-step
invariant-list_steps-loop-step l =
    with_paths (columns_in l.columns)
    (step_signals (scope_of l.scope) (steps_of (map delay_step_of (drop l.step-index l.steps))))
    ≡ with_paths (columns_in l.fn.columns)
    (step_signals (scope_of l.scope) (steps_of (map delay_step_of l.steps)))

abbrev pub invariant-list_others-loop-other : goal.invariant-list_others-loop-other
invariant-list_others-loop-other l =
    with_paths (columns_in l.columns)
    (other_signals (scope_of l.scope) (others_of (map sequence_of (drop l.other-index l.others))))
    ≡ with_paths (columns_in l.fn.columns)
    (other_signals (scope_of l.scope) (others_of (map sequence_of l.others)))
