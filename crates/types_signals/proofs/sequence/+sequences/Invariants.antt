use Rattle.std.proofs.Common.{◌≡◌, map, drop}
use Rattle.parser_grammar.specs.ReadSequences.{steps_of, others_of}
use Rattle.parser_grammar.specs.Views.{sequence_of, delay_step_of}
use Rattle.types_names.specs.Faults.{step_faults, other_faults, earlier, least}
use Rattle.types_names.specs.Views.{scope_of}
use Rattle.types_signals.proofs.sequence.+sequences.Given as goal

abbrev pub invariant-steps_fault-loop-step : goal.invariant-steps_fault-loop-step
invariant-steps_fault-loop-step l =
    earlier l.fault
    (least (step_faults (scope_of l.scope) l.sought (steps_of (map delay_step_of (drop l.step-index l.steps)))))
    ≡ earlier l.fn.first (least (step_faults (scope_of l.scope) l.sought (steps_of (map delay_step_of l.steps))))

abbrev pub invariant-others_fault-loop-other : goal.invariant-others_fault-loop-other
invariant-others_fault-loop-other l =
    earlier l.fault
    (least (other_faults (scope_of l.scope) l.sought (others_of (map sequence_of (drop l.other-index l.others)))))
    ≡ earlier l.fn.first (least (other_faults (scope_of l.scope) l.sought (others_of (map sequence_of l.others))))
