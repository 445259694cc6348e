use Rattle.std.proofs.Common.{◌∙◌, ◌++◌, ℕ, List, refl, map, string_bytes, sym, ap, arith}
use Rattle.expressions.specs.declared.node.Node.{Node}
use Rattle.expressions.specs.declared.operator.Arithmetic.{Arithmetic}
use Rattle.expressions.specs.declared.operator.Shift.{Shift}
use Rattle.expressions.specs.declared.operator.Comparison.{Comparison}
use Rattle.expressions.specs.declared.operator.Connective.{Connective}
use Rattle.expressions.specs.Terms.{constant, named, slice, combine, shift, compare, connect}
use Rattle.expressions.specs.Nodes.{node_term, step_of, seen_node, chain_term, concatenation_term}
use Rattle.std.specs.Prelude.{codes}
use Rattle.report_explained.specs.ExpressionText.{called, IsBare, sum_sign, sum_level, shift_sign, comparison_sign}
use Rattle.report_explained.specs.ExpressionText.{comparison_level, connective_sign, connective_level}
use Rattle.report_explained.proofs.ExpressionLaws.{if_choice, parts_step, parts_all, chain_step, chain_all, text_looser}
use Rattle.report_explained.proofs.ExpressionLaws.{sums_are, shifts_are, comparisons_are, connectives_are}
use Rattle.report_explained.proofs.ExpressionLaws.{if_bare, if_made, if_text, if_operand, if_group, if_inverse}
use Rattle.report_explained.proofs.ExpressionLaws.{if_change}
use Rattle.report_explained.proofs.ExpressionLaws.{if_past, if_function, if_sign, constant_term, named_term, slice_term}
use Rattle.report_explained.proofs.ExpressionLaws.{sums_term, shifts_term, comparisons_term, connections_term}
use Rattle.report_explained.proofs.ExpressionLaws.{concat_term}
use Rattle.report_explained.proofs.expression_text.+text.Goals as goal

pub node_text-returns-in-Constant : goal.node_text-returns-in-Constant
node_text-returns-in-Constant t c =
    if_bare c.number_text.result (called c.args.names) (node_term c.args.node.now) (constant c.in-Constant.bits)
    (constant_term c.args.node.now c.in-Constant.bits c.in-Constant.is) (omega arith) c.number_text.ensures

pub node_text-returns-in-Name : goal.node_text-returns-in-Name
node_text-returns-in-Name t c =
    let names = called c.args.names in
    if_bare c.from_str.result names (node_term c.args.node.now) (named c.in-Name.name)
    (named_term c.args.node.now c.in-Name.name c.in-Name.is) (omega arith)
    (if_made c.from_str.result (IsBare names (named c.in-Name.name)) c.name.result.now c.name.ensures
    c.from_str.ensures.ok)

pub node_text-returns-in-Slice : goal.node_text-returns-in-Slice
node_text-returns-in-Slice t c =
    if_bare c.bits_text.result (called c.args.names) (node_term c.args.node.now) (slice c.in-Slice.part)
    (slice_term c.args.node.now c.in-Slice.part c.in-Slice.is) (omega arith) c.bits_text.ensures

pub node_text-returns-in_ok-text-in-Group : goal.node_text-returns-in_ok-text-in-Group
node_text-returns-in_ok-text-in-Group t c =
    if_group c.within.result (called c.args.names) c.args.node.now c.in-Group.field-0 c.in-Group.operand
    c.deref.result.now
    (string_bytes c.in_ok-text-in-Group.text) c.as_str.result.now c.in-Group.is c.deref.ensures c.as_str.ensures.value
    c.in_ok-text-in-Group.ensures c.within.ensures

pub node_text-returns-in_ok-text-in-Complement : goal.node_text-returns-in_ok-text-in-Complement
node_text-returns-in_ok-text-in-Complement t c =
    if_inverse c.within-in-Complement.result (called c.args.names) c.args.node.now c.in-Complement.field-0
    c.in-Complement.operand c.deref-in-Complement.result.now (string_bytes c.in_ok-text-in-Complement.text)
    c.as_str-in-Complement.result.now c.in-Complement.is c.deref-in-Complement.ensures
    c.as_str-in-Complement.ensures.value
    c.in_ok-text-in-Complement.ensures c.within-in-Complement.ensures

pub node_text-returns-in_ok-text-in-Arithmetic : goal.node_text-returns-in_ok-text-in-Arithmetic
node_text-returns-in_ok-text-in-Arithmetic t c =
    let first = c.in-Arithmetic.first in
    let steps = c.in-Arithmetic.steps in
    if_text c.sums_text.result (called c.args.names) 1 (node_term c.args.node.now)
    (chain_term combine (node_term c.deref-in-Arithmetic.result.now) (map step_of c.deref-in-Arithmetic-2.result.now))
    (sums_term c.args.node.now c.in-Arithmetic.field-0 first steps c.in-Arithmetic.is
    ∙ ap (λ (x : Node). chain_term combine (node_term x) (map step_of steps.items)) (sym c.deref-in-Arithmetic.ensures)
    ∙ ap (λ (l : List (Arithmetic × Node)). chain_term combine (node_term c.deref-in-Arithmetic.result.now)
    (map step_of l))
    (sym c.deref-in-Arithmetic-2.ensures.value))
    (c.sums_text.ensures (node_term c.deref-in-Arithmetic.result.now) c.in_ok-text-in-Arithmetic.ensures)

pub node_text-returns-in_ok-text-in-Shift : goal.node_text-returns-in_ok-text-in-Shift
node_text-returns-in_ok-text-in-Shift t c =
    let first = c.in-Shift.first in
    let steps = c.in-Shift.steps in
    if_text c.shifts_text.result (called c.args.names) 1 (node_term c.args.node.now)
    (chain_term shift (node_term c.deref-in-Shift.result.now) (map step_of c.deref-in-Shift-2.result.now))
    (shifts_term c.args.node.now c.in-Shift.field-0 first steps c.in-Shift.is
    ∙ ap (λ (x : Node). chain_term shift (node_term x) (map step_of steps.items)) (sym c.deref-in-Shift.ensures)
    ∙ ap (λ (l : List (Shift × Node)). chain_term shift (node_term c.deref-in-Shift.result.now) (map step_of l))
    (sym c.deref-in-Shift-2.ensures.value))
    (c.shifts_text.ensures (node_term c.deref-in-Shift.result.now) c.in_ok-text-in-Shift.ensures)

pub node_text-returns-in_ok-text-in-Compare : goal.node_text-returns-in_ok-text-in-Compare
node_text-returns-in_ok-text-in-Compare t c =
    let first = c.in-Compare.first in
    let steps = c.in-Compare.steps in
    if_text c.comparisons_text.result (called c.args.names) 1 (node_term c.args.node.now)
    (chain_term compare (node_term c.deref-in-Compare.result.now) (map step_of c.deref-in-Compare-2.result.now))
    (comparisons_term c.args.node.now c.in-Compare.field-0 first steps c.in-Compare.is
    ∙ ap (λ (x : Node). chain_term compare (node_term x) (map step_of steps.items)) (sym c.deref-in-Compare.ensures)
    ∙ ap (λ (l : List (Comparison × Node)). chain_term compare (node_term c.deref-in-Compare.result.now)
    (map step_of l))
    (sym c.deref-in-Compare-2.ensures.value))
    (c.comparisons_text.ensures (node_term c.deref-in-Compare.result.now) c.in_ok-text-in-Compare.ensures)

pub node_text-returns-in_ok-text-in-Connect : goal.node_text-returns-in_ok-text-in-Connect
node_text-returns-in_ok-text-in-Connect t c =
    let first = c.in-Connect.first in
    let steps = c.in-Connect.steps in
    if_text c.connections_text.result (called c.args.names) 1 (node_term c.args.node.now)
    (chain_term connect (node_term c.deref-in-Connect.result.now) (map step_of c.deref-in-Connect-2.result.now))
    (connections_term c.args.node.now first steps c.in-Connect.is
    ∙ ap (λ (x : Node). chain_term connect (node_term x) (map step_of steps.items)) (sym c.deref-in-Connect.ensures)
    ∙ ap (λ (l : List (Connective × Node)). chain_term connect (node_term c.deref-in-Connect.result.now)
    (map step_of l))
    (sym c.deref-in-Connect-2.ensures.value))
    (c.connections_text.ensures (node_term c.deref-in-Connect.result.now) c.in_ok-text-in-Connect.ensures)

pub node_text-returns-in-Change : goal.node_text-returns-in-Change
node_text-returns-in-Change t c =
    if_change c.call_text.result (called c.args.names) c.args.node.now c.in-Change.op c.in-Change.operand
    c.deref-in-Change.result.now c.change_word.result.now c.in-Change.is c.deref-in-Change.ensures c.change_word.ensures
    c.call_text.ensures

pub operand_text-returns : goal.operand_text-returns
operand_text-returns t c =
    if_operand c.bracketed.result (called c.args.names) 11 (node_term c.args.node.now) (string_bytes c.in_ok-text.text)
    c.needs_brackets.result c.needs_brackets.ensures c.in_ok-text.ensures c.bracketed.ensures

pub primary_text-returns : goal.primary_text-returns
primary_text-returns t c =
    if_operand c.bracketed.result (called c.args.names) 12 (node_term c.args.node.now) (string_bytes c.in_ok-text.text)
    c.needs_brackets_after_sign.result c.needs_brackets_after_sign.ensures c.in_ok-text.ensures c.bracketed.ensures

pub reduction_text-returns-then-is_function : goal.reduction_text-returns-then-is_function
reduction_text-returns-then-is_function t c =
    if_function c.call_text.result (called c.args.names) c.args.op (node_term c.args.operand.now)
    c.reduction_word.result.now
    c.is_function.result c.is_function.ensures c.if-is_function.true c.reduction_word.ensures c.call_text.ensures

pub reduction_text-returns : goal.reduction_text-returns
reduction_text-returns t c =
    if_sign c.within.result (called c.args.names) c.args.op (node_term c.args.operand.now) c.reduction_word-2.result.now
    (string_bytes c.in_ok-text.text) c.as_str.result.now c.is_function.result c.is_function.ensures
    c.if-is_function.false
    c.reduction_word-2.ensures c.as_str.ensures.value c.in_ok-text.ensures c.within.ensures

pub node_text-returns-in_ok-text-in-Concat : goal.node_text-returns-in_ok-text-in-Concat
node_text-returns-in_ok-text-in-Concat t c =
    let first = c.in-Concat.first in
    let parts = c.in-Concat.parts in
    if_text c.parts_text.result (called c.args.names) 1 (node_term c.args.node.now)
    (concatenation_term (node_term c.deref-in-Concat.result.now) (map seen_node c.deref-in-Concat-2.result.now))
    (concat_term c.args.node.now c.in-Concat.field-0 first parts c.in-Concat.is
    ∙ ap (λ (x : Node). concatenation_term (node_term x) (map seen_node parts.items)) (sym c.deref-in-Concat.ensures)
    ∙ ap (λ (l : List Node). concatenation_term (node_term c.deref-in-Concat.result.now) (map seen_node l))
    (sym c.deref-in-Concat-2.ensures.value))
    (c.parts_text.ensures (node_term c.deref-in-Concat.result.now) c.in_ok-text-in-Concat.ensures)

pub node_text-returns-in_ok-second-in-Choose : goal.node_text-returns-in_ok-second-in-Choose
node_text-returns-in_ok-second-in-Choose t c =
    if_choice c.choice_text.result (called c.args.names) c.args.node.now c.in-Choose.field-0 c.in-Choose.condition
    c.in-Choose.first c.in-Choose.second c.deref-in-Choose.result.now c.deref-in-Choose-2.result.now
    c.deref-in-Choose-3.result.now (string_bytes c.in_ok-condition-in-Choose.condition)
    (string_bytes c.in_ok-first-in-Choose.first) (string_bytes c.in_ok-second-in-Choose.second)
    c.as_str-in-Choose.result.now c.as_str-in-Choose-2.result.now c.in-Choose.is c.deref-in-Choose.ensures
    c.deref-in-Choose-2.ensures c.deref-in-Choose-3.ensures c.as_str-in-Choose.ensures.value
    c.as_str-in-Choose-2.ensures.value c.in_ok-condition-in-Choose.ensures c.in_ok-first-in-Choose.ensures
    c.in_ok-second-in-Choose.ensures c.choice_text.ensures

pub past_text-returns : goal.past_text-returns
past_text-returns t c =
    if_past c.within.result (called c.args.names) (node_term c.args.operand.now) c.args.ticks
    (string_bytes c.in_ok-text.text) c.as_str.result.now c.as_str-2.result.now c.as_str.ensures.value
    (c.as_str-2.ensures.value ∙ c.in_ok-push_str.ensures.bytes ∙ ap (λ (l : List ℕ). l ++ codes ")")
    c.in_ok-after.ensures)
    c.in_ok-text.ensures c.within.ensures

pub parts_text-returns : goal.parts_text-returns
parts_text-returns t c = λ first h.
    parts_all c.within.result (called c.args.names) first c.args.parts.now c.loop-part.part-index
    (string_bytes c.loop-part.text) c.as_str-2.result.now c.is_empty.result c.is_empty.ensures c.if-is_empty.false
    (omega (arith, c.loop-part-test.false)) c.as_str-2.ensures.value (c.loop-part.invariant first h) c.within.ensures

pub parts_text-loop-part-preserved : goal.parts_text-loop-part-preserved
parts_text-loop-part-preserved t c = λ first h.
    parts_step (called c.args.names) first c.args.parts.now c.loop-part.part-index c.part-item.result
    (string_bytes c.loop-part.text) (string_bytes c.in_ok-node_text.field-0) c.as_str.result.now
    (string_bytes c.push_str-in-loop-part.new.self) c.loop-part-test.true c.part-item.is c.as_str.ensures.value
    (c.in_ok-push_str-2.ensures.bytes ∙ ap (λ (l : List ℕ). l ++ c.as_str.result.now) c.in_ok-push_str.ensures.bytes)
    (c.loop-part.invariant first h) c.in_ok-node_text.ensures

pub sums_text-loop-step-preserved : goal.sums_text-loop-step-preserved
sums_text-loop-step-preserved t c = record {
  some = omega (arith, c.sum_level-next.ensures, sums_are.some c.step-item.result.0);
  text = λ first h.
      chain_step combine sum_sign sum_level sums_are (called c.args.names) first c.args.steps.now c.loop-step.step-index
      c.step-item.result c.loop-step.level c.sum_level-next.result (string_bytes c.loop-step.text)
      (string_bytes c.in_ok-operand.operand) c.as_str.result.now c.sum_sign.result.now (string_bytes c.in_ok-text.text)
      c.loop-step-test.true c.step-item.is c.sum_level-next.ensures c.sum_sign.ensures c.as_str.ensures.value
      c.in_ok-text.ensures (c.loop-step.invariant.text first h) c.in_ok-operand.ensures;
}

pub sums_text-returns : goal.sums_text-returns
sums_text-returns t c = λ first h.
    chain_all combine (called c.args.names) c.loop-step.level first c.args.steps.now c.loop-step.step-index
    (string_bytes c.loop-step.text) c.loop-step.invariant.some (omega (arith, c.loop-step-test.false))
    (c.loop-step.invariant.text first h)

pub comparisons_text-loop-step-preserved : goal.comparisons_text-loop-step-preserved
comparisons_text-loop-step-preserved t c = record {
  some = omega (arith, c.comparison_level-next.ensures, comparisons_are.some c.step-item.result.0);
  text = λ first h.
      chain_step compare comparison_sign comparison_level comparisons_are (called c.args.names) first c.args.steps.now
      c.loop-step.step-index
      c.step-item.result c.loop-step.level c.comparison_level-next.result (string_bytes c.loop-step.text)
      (string_bytes c.in_ok-operand.operand) c.as_str.result.now c.comparison_sign.result.now
      (string_bytes c.in_ok-text.text)
      c.loop-step-test.true c.step-item.is c.comparison_level-next.ensures c.comparison_sign.ensures
      c.as_str.ensures.value
      c.in_ok-text.ensures (c.loop-step.invariant.text first h) c.in_ok-operand.ensures;
}

pub comparisons_text-returns : goal.comparisons_text-returns
comparisons_text-returns t c = λ first h.
    chain_all compare (called c.args.names) c.loop-step.level first c.args.steps.now c.loop-step.step-index
    (string_bytes c.loop-step.text) c.loop-step.invariant.some (omega (arith, c.loop-step-test.false))
    (c.loop-step.invariant.text first h)

pub connections_text-loop-step-preserved : goal.connections_text-loop-step-preserved
connections_text-loop-step-preserved t c = record {
  some = omega (arith, c.connective_level-next.ensures, connectives_are.some c.step-item.result.0);
  text = λ first h.
      chain_step connect connective_sign connective_level connectives_are (called c.args.names) first c.args.steps.now
      c.loop-step.step-index
      c.step-item.result c.loop-step.level c.connective_level-next.result (string_bytes c.loop-step.text)
      (string_bytes c.in_ok-operand.operand) c.as_str.result.now c.connective_sign.result.now
      (string_bytes c.in_ok-text.text)
      c.loop-step-test.true c.step-item.is c.connective_level-next.ensures c.connective_sign.ensures
      c.as_str.ensures.value
      c.in_ok-text.ensures (c.loop-step.invariant.text first h) c.in_ok-operand.ensures;
}

pub connections_text-returns : goal.connections_text-returns
connections_text-returns t c = λ first h.
    chain_all connect (called c.args.names) c.loop-step.level first c.args.steps.now c.loop-step.step-index
    (string_bytes c.loop-step.text) c.loop-step.invariant.some (omega (arith, c.loop-step-test.false))
    (c.loop-step.invariant.text first h)

pub shifts_text-loop-step-init : goal.shifts_text-loop-step-init
shifts_text-loop-step-init t c = λ first h.
    text_looser (called c.args.names) 11 9 first (string_bytes c.args.text) (omega arith) h

pub shifts_text-loop-step-preserved : goal.shifts_text-loop-step-preserved
shifts_text-loop-step-preserved t c = λ first h.
    chain_step shift shift_sign (λ op. 9) shifts_are (called c.args.names) first c.args.steps.now c.loop-step.step-index
    c.step-item.result 9 9 (string_bytes c.loop-step.text) (string_bytes c.in_ok-operand.operand) c.as_str.result.now
    c.shift_sign.result.now (string_bytes c.in_ok-text.text) c.loop-step-test.true c.step-item.is refl
    c.shift_sign.ensures
    c.as_str.ensures.value c.in_ok-text.ensures (c.loop-step.invariant first h) c.in_ok-operand.ensures

pub shifts_text-returns : goal.shifts_text-returns
shifts_text-returns t c = λ first h.
    chain_all shift (called c.args.names) 9 first c.args.steps.now c.loop-step.step-index
    (string_bytes c.loop-step.text) (omega arith) (omega (arith, c.loop-step-test.false))
    (c.loop-step.invariant first h)
