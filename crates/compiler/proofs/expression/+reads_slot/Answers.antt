use Rattle.std.proofs.Common.{◌≡◌, ◌∙◌, ◌<◌, length, map, sym, ap, arith}
use Rattle.std.proofs.lemmas.Bool.{eqb-true, eqb-false}
use Rattle.std.proofs.lemmas.List.{length-map}
use Rattle.expressions.specs.declared.operator.Arithmetic.{Arithmetic}
use Rattle.expressions.specs.declared.operator.Shift.{Shift}
use Rattle.expressions.specs.declared.node.Node.{Node}
use Rattle.expressions.specs.Nodes.{seen_node, node_term, step_of}
use Rattle.expressions.proofs.Opened.{opens_concat, opens_sums, opens_shifts, opens_compare}
use Rattle.expressions.proofs.Opened.{opens_connect}
use Rattle.compiler.specs.Codes.{reads_slot}
use Rattle.compiler.proofs.ChainLaws.{reads-sums, reads-shifts, reads-no_shift}
use Rattle.compiler.proofs.ChainLaws.{reads-comparisons, reads-connections, reads-parts}
use Rattle.compiler.proofs.expression.+reads_slot.Goals as goal

pub returns-else-is_empty : goal.returns-else-is_empty
returns-else-is_empty t c =
    let v = c.in-Arithmetic in
    let o = opens_sums c.args.node.now v.field-0 v.first v.steps v.is c.requires in
    let all = map (step_of {O = Arithmetic}) v.steps.items in
    let some = eqb-false v.steps.len 0 (sym c.is_empty.ensures ∙ c.if-is_empty.false) in
    let long : 0 < length all =
    omega (arith, some, v.steps.ok, length-map v.steps.items (step_of {O = Arithmetic})) in
    c.if-is_empty.false ∙ sym (ap reads_slot o.chain.term ∙ reads-sums (node_term v.first.value) all
    long)

pub returns-then-is_empty-2 : goal.returns-then-is_empty-2
returns-then-is_empty-2 t c =
    let v = c.in-Shift in
    let o = opens_shifts c.args.node.now v.field-0 v.first v.steps v.is c.requires in
    let all = map (step_of {O = Shift}) v.steps.items in
    let none = eqb-true v.steps.len 0 (sym c.is_empty-in-Shift.ensures ∙ c.if-is_empty-2.true) in
    let short : length all ≡ 0 =
    omega (arith, none, v.steps.ok, length-map v.steps.items (step_of {O = Shift})) in
    c.reads_slot-then-is_empty-2.ensures
    ∙ (ap (λ (n : Node). reads_slot (node_term n)) c.deref-then-is_empty-2.ensures
    ∙ sym (ap reads_slot o.chain.term ∙ reads-no_shift (node_term v.first.value) all short))

pub returns-else-is_empty-2 : goal.returns-else-is_empty-2
returns-else-is_empty-2 t c =
    let v = c.in-Shift in
    let o = opens_shifts c.args.node.now v.field-0 v.first v.steps v.is c.requires in
    let all = map (step_of {O = Shift}) v.steps.items in
    let some = eqb-false v.steps.len 0 (sym c.is_empty-in-Shift.ensures ∙ c.if-is_empty-2.false) in
    let long : 0 < length all =
    omega (arith, some, v.steps.ok, length-map v.steps.items (step_of {O = Shift})) in
    c.if-is_empty-2.false ∙ sym (ap reads_slot o.chain.term ∙ reads-shifts (node_term v.first.value)
    all long)

pub returns-in-Concat : goal.returns-in-Concat
returns-in-Concat t c =
    let v = c.in-Concat in
    let o = opens_concat c.args.node.now v.field-0 v.field-1 v.field-2 v.is c.requires in
    sym (ap reads_slot o.term ∙ reads-parts (node_term v.field-1.value) (map seen_node
    v.field-2.items) o.some)

pub returns-in-Compare : goal.returns-in-Compare
returns-in-Compare t c =
    let v = c.in-Compare in
    let o = opens_compare c.args.node.now v.field-0 v.field-1 v.field-2 v.is c.requires in
    sym (ap reads_slot o.chain.term ∙ reads-comparisons (node_term v.field-1.value) (map step_of
    v.field-2.items) o.some)

pub returns-in-Connect : goal.returns-in-Connect
returns-in-Connect t c =
    let v = c.in-Connect in
    let o = opens_connect c.args.node.now v.field-0 v.field-1 v.is c.requires in
    sym (ap reads_slot o.chain.term ∙ reads-connections (node_term v.field-0.value) (map step_of
    v.field-1.items) o.some)
