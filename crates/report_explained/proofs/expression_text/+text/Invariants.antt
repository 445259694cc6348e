use Rattle.std.proofs.Common.{◌≤◌, map, take, string_bytes}
use Rattle.expressions.specs.Terms.{Term, combine, shift, compare, connect}
use Rattle.expressions.specs.Nodes.{seen_node, step_of, chain_term, concatenation_term}
use Rattle.report_explained.specs.ExpressionText.{called, IsText}
use Rattle.report_explained.proofs.ExpressionLaws.{ArePartsOf}
use Rattle.report_explained.proofs.expression_text.+text.Given as goal

-- the text of the operands so far may stand at the level of the last operator
abbrev pub invariant-comparisons_text-loop-step : goal.invariant-comparisons_text-loop-step
invariant-comparisons_text-loop-step l = record {
  some : 1 ≤ l.level;
  text : (first : Term) → IsText (called l.names) 11 first (string_bytes l.fn.text)
      → IsText (called l.names) l.level (chain_term compare first (map step_of (take l.step-index l.steps)))
      (string_bytes l.text);
}

abbrev pub invariant-connections_text-loop-step : goal.invariant-connections_text-loop-step
invariant-connections_text-loop-step l = record {
  some : 1 ≤ l.level;
  text : (first : Term) → IsText (called l.names) 11 first (string_bytes l.fn.text)
      → IsText (called l.names) l.level (chain_term connect first (map step_of (take l.step-index l.steps)))
      (string_bytes l.text);
}

abbrev pub invariant-parts_text-loop-part : goal.invariant-parts_text-loop-part
invariant-parts_text-loop-part l = (first : Term) → IsText (called l.names) 1 first (string_bytes l.fn.text)
    → ArePartsOf (called l.names) l.part-index first
    (concatenation_term first (map seen_node (take l.part-index l.parts))) (string_bytes l.text)

abbrev pub invariant-shifts_text-loop-step : goal.invariant-shifts_text-loop-step
invariant-shifts_text-loop-step l = (first : Term) → IsText (called l.names) 11 first (string_bytes l.fn.text)
    → IsText (called l.names) 9 (chain_term shift first (map step_of (take l.step-index l.steps)))
    (string_bytes l.text)

abbrev pub invariant-sums_text-loop-step : goal.invariant-sums_text-loop-step
invariant-sums_text-loop-step l = record {
  some : 1 ≤ l.level;
  text : (first : Term) → IsText (called l.names) 11 first (string_bytes l.fn.text)
      → IsText (called l.names) l.level (chain_term combine first (map step_of (take l.step-index l.steps)))
      (string_bytes l.text);
}
