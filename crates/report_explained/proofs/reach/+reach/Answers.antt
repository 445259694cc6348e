use Rattle.std.proofs.Common.{◌∙◌, List, map, ap, refl}
use Rattle.expressions.specs.declared.node.Node.{Node}
use Rattle.expressions.specs.declared.operator.Arithmetic.{Arithmetic}
use Rattle.expressions.specs.declared.operator.Shift.{Shift}
use Rattle.expressions.specs.declared.operator.Comparison.{Comparison}
use Rattle.expressions.specs.declared.operator.Connective.{Connective}
use Rattle.expressions.specs.Terms.{combine, shift, compare, connect}
use Rattle.expressions.specs.Nodes.{node_term, step_of, seen_node}
use Rattle.report_explained.specs.Reach.{reach_of, reach_of_operands, reach_of_parts}
use Rattle.report_explained.proofs.ExpressionLaws.{sums_term, shifts_term, comparisons_term, connections_term}
use Rattle.report_explained.proofs.ExpressionLaws.{concat_term}
use Rattle.report_explained.proofs.ReachLaws.{chain_found, parts_found}
use Rattle.report_explained.proofs.reach.+reach.Goals as goal

pub reach_of-returns-in-Concat : goal.reach_of-returns-in-Concat
reach_of-returns-in-Concat t c =
    let first = c.in-Concat.first in
    let more = c.in-Concat.more in
    parts_found c.args.node.now (node_term first.value) (map seen_node more.items) c.max.result
    c.reach_of-in-Concat.result c.reach_of_parts.result
    (concat_term c.args.node.now c.in-Concat.field-0 first more c.in-Concat.is) c.max.ensures
    (c.reach_of-in-Concat.ensures ∙ ap (λ (x : Node). reach_of (node_term x)) c.deref-in-Concat.ensures)
    (c.reach_of_parts.ensures
    ∙ ap (λ (l : List Node). reach_of_parts (map seen_node l)) c.deref-in-Concat-2.ensures.value)

pub reach_of-returns-in-Arithmetic : goal.reach_of-returns-in-Arithmetic
reach_of-returns-in-Arithmetic t c =
    let first = c.in-Arithmetic.first in
    let more = c.in-Arithmetic.more in
    chain_found combine (λ op a b. refl) c.args.node.now (node_term first.value) (map step_of more.items)
    c.max-in-Arithmetic.result c.reach_of-in-Arithmetic.result c.reach_of_arithmetic.result
    (sums_term c.args.node.now c.in-Arithmetic.field-0 first more c.in-Arithmetic.is) c.max-in-Arithmetic.ensures
    (c.reach_of-in-Arithmetic.ensures ∙ ap (λ (x : Node). reach_of (node_term x)) c.deref-in-Arithmetic.ensures)
    (c.reach_of_arithmetic.ensures
    ∙ ap (λ (l : List (Arithmetic × Node)). reach_of_operands (map step_of l)) c.deref-in-Arithmetic-2.ensures.value)

pub reach_of-returns-in-Shift : goal.reach_of-returns-in-Shift
reach_of-returns-in-Shift t c =
    let first = c.in-Shift.first in
    let more = c.in-Shift.more in
    chain_found shift (λ op a b. refl) c.args.node.now (node_term first.value) (map step_of more.items)
    c.max-in-Shift.result c.reach_of-in-Shift.result c.reach_of_shifts.result
    (shifts_term c.args.node.now c.in-Shift.field-0 first more c.in-Shift.is) c.max-in-Shift.ensures
    (c.reach_of-in-Shift.ensures ∙ ap (λ (x : Node). reach_of (node_term x)) c.deref-in-Shift.ensures)
    (c.reach_of_shifts.ensures
    ∙ ap (λ (l : List (Shift × Node)). reach_of_operands (map step_of l)) c.deref-in-Shift-2.ensures.value)

pub reach_of-returns-in-Compare : goal.reach_of-returns-in-Compare
reach_of-returns-in-Compare t c =
    let first = c.in-Compare.first in
    let more = c.in-Compare.more in
    chain_found compare (λ op a b. refl) c.args.node.now (node_term first.value) (map step_of more.items)
    c.max-in-Compare.result c.reach_of-in-Compare.result c.reach_of_comparisons.result
    (comparisons_term c.args.node.now c.in-Compare.field-0 first more c.in-Compare.is) c.max-in-Compare.ensures
    (c.reach_of-in-Compare.ensures ∙ ap (λ (x : Node). reach_of (node_term x)) c.deref-in-Compare.ensures)
    (c.reach_of_comparisons.ensures
    ∙ ap (λ (l : List (Comparison × Node)). reach_of_operands (map step_of l)) c.deref-in-Compare-2.ensures.value)

pub reach_of-returns-in-Connect : goal.reach_of-returns-in-Connect
reach_of-returns-in-Connect t c =
    let first = c.in-Connect.first in
    let more = c.in-Connect.more in
    chain_found connect (λ op a b. refl) c.args.node.now (node_term first.value) (map step_of more.items)
    c.max-in-Connect.result c.reach_of-in-Connect.result c.reach_of_connectives.result
    (connections_term c.args.node.now first more c.in-Connect.is) c.max-in-Connect.ensures
    (c.reach_of-in-Connect.ensures ∙ ap (λ (x : Node). reach_of (node_term x)) c.deref-in-Connect.ensures)
    (c.reach_of_connectives.ensures
    ∙ ap (λ (l : List (Connective × Node)). reach_of_operands (map step_of l)) c.deref-in-Connect-2.ensures.value)
