use Rattle.std.proofs.Common.{◌≡◌, ◌++◌, map, drop}
use Rattle.expressions.specs.Nodes.{seen_node, step_of}
use Rattle.assertions.specs.Names.{operand_names, part_names}
use Rattle.assertions.proofs.names.+naming.Given as goal

abbrev pub invariant-add_comparisons-loop-step : goal.invariant-add_comparisons-loop-step
invariant-add_comparisons-loop-step l =
    l.names.items ++ operand_names (map step_of (drop l.step-index l.steps))
    ≡ l.fn.names.items ++ operand_names (map step_of l.steps)

abbrev pub invariant-add_connections-loop-step : goal.invariant-add_connections-loop-step
invariant-add_connections-loop-step l =
    l.names.items ++ operand_names (map step_of (drop l.step-index l.steps))
    ≡ l.fn.names.items ++ operand_names (map step_of l.steps)

abbrev pub invariant-add_parts-loop-part : goal.invariant-add_parts-loop-part
invariant-add_parts-loop-part l =
    l.names.items ++ part_names (map seen_node (drop l.part-index l.parts))
    ≡ l.fn.names.items ++ part_names (map seen_node l.parts)

abbrev pub invariant-add_shifts-loop-step : goal.invariant-add_shifts-loop-step
invariant-add_shifts-loop-step l =
    l.names.items ++ operand_names (map step_of (drop l.step-index l.steps))
    ≡ l.fn.names.items ++ operand_names (map step_of l.steps)

abbrev pub invariant-add_sums-loop-step : goal.invariant-add_sums-loop-step
invariant-add_sums-loop-step l =
    l.names.items ++ operand_names (map step_of (drop l.step-index l.steps))
    ≡ l.fn.names.items ++ operand_names (map step_of l.steps)
