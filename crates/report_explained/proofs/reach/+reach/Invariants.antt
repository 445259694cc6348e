use Rattle.std.proofs.Common.{◌≡◌, max, map, drop}
use Rattle.expressions.specs.Nodes.{seen_node, step_of}
use Rattle.report_explained.specs.Reach.{reach_of_operands, reach_of_parts}
use Rattle.report_explained.proofs.reach.+reach.Given as goal

-- the most of those so far and of those that are left
abbrev pub invariant-reach_of_arithmetic-loop-link : goal.invariant-reach_of_arithmetic-loop-link
invariant-reach_of_arithmetic-loop-link l =
    max l.reach (reach_of_operands (map step_of (drop l.link-index l.links)))
    ≡ reach_of_operands (map step_of l.links)

abbrev pub invariant-reach_of_comparisons-loop-link : goal.invariant-reach_of_comparisons-loop-link
invariant-reach_of_comparisons-loop-link l =
    max l.reach (reach_of_operands (map step_of (drop l.link-index l.links)))
    ≡ reach_of_operands (map step_of l.links)

abbrev pub invariant-reach_of_connectives-loop-link : goal.invariant-reach_of_connectives-loop-link
invariant-reach_of_connectives-loop-link l =
    max l.reach (reach_of_operands (map step_of (drop l.link-index l.links)))
    ≡ reach_of_operands (map step_of l.links)

abbrev pub invariant-reach_of_parts-loop-part : goal.invariant-reach_of_parts-loop-part
invariant-reach_of_parts-loop-part l =
    max l.reach (reach_of_parts (map seen_node (drop l.part-index l.parts)))
    ≡ reach_of_parts (map seen_node l.parts)

abbrev pub invariant-reach_of_shifts-loop-link : goal.invariant-reach_of_shifts-loop-link
invariant-reach_of_shifts-loop-link l =
    max l.reach (reach_of_operands (map step_of (drop l.link-index l.links)))
    ≡ reach_of_operands (map step_of l.links)
