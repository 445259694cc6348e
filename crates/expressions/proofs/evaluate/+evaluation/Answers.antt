use Rattle.std.proofs.Common.{rules, ◌≡◌, ◌+◌, map, drop, arith, sym, ap, ◌∙◌}
use Rattle.expressions.specs.declared.operator.Arithmetic.{Arithmetic}
use Rattle.expressions.specs.declared.operator.Shift.{Shift}
use Rattle.expressions.specs.declared.operator.Comparison.{Comparison}
use Rattle.expressions.specs.declared.operator.Connective.{Connective}
use Rattle.expressions.specs.declared.node.Node.TheViews.{the_lemmas}
use Rattle.expressions.specs.Terms.{Term, width_of, value_of}
use Rattle.expressions.specs.Nodes.{Seen, seen_node, node_term, step_of}
use Rattle.expressions.specs.Rows.{samples_of}
use Rattle.expressions.proofs.Chains.{step_at, typed_at, narrow_at, total_above, narrow_sums, width-shifted, one_tested}
use Rattle.expressions.proofs.Chains.{value-sums, value-shifts, value-comparisons, value-connections, value-joined}
use Rattle.expressions.proofs.Opened.{opens_concat, opens_sums, opens_shifts, opens_compare, opens_connect}
use Rattle.expressions.proofs.Opened.{opens_choose}
use Rattle.expressions.proofs.evaluate.+evaluation.Goals as goal

pub combine_all-node_value-operand-requires : goal.combine_all-node_value-operand-requires
combine_all-node_value-operand-requires t c =
    let typed =
    typed_at Arithmetic c.args.steps.now c.loop-step.step-index c.step-item.result c.loop-step-test.true
    c.step-item.is c.loop-step.invariant.typed in
    let narrow =
    narrow_at Arithmetic c.args.first.width c.args.steps.now c.loop-step.step-index c.step-item.result
    c.loop-step-test.true c.step-item.is c.loop-step.invariant.narrow in
    (search (rules, the_lemmas), (typed, (narrow, c.args.first.at_most_128)))

pub shift_all-own_value-count-requires : goal.shift_all-own_value-count-requires
shift_all-own_value-count-requires t c =
    let typed =
    typed_at Shift c.args.steps.now c.loop-step.step-index c.step-item.result c.loop-step-test.true c.step-item.is
    c.loop-step.invariant.typed in
    (search (rules, the_lemmas), typed)

pub compare_all-node_value-operand-requires : goal.compare_all-node_value-operand-requires
compare_all-node_value-operand-requires t c =
    let typed =
    typed_at Comparison c.args.steps.now c.loop-step.step-index c.step-item.result c.loop-step-test.true
    c.step-item.is c.loop-step.invariant.typed in (
      search (rules, the_lemmas),
      (
        typed,
        (
          omega (arith, c.max-larger.ensures, c.width_of.ensures.own),
          omega (arith, c.max-larger.ensures, c.width_of.ensures.at_most_128, c.loop-step.left.at_most_128),
        ),
      ),
    )

pub connect_all-own_value-operand-requires : goal.connect_all-own_value-operand-requires
connect_all-own_value-operand-requires t c =
    let typed =
    typed_at Connective c.args.steps.now c.loop-step.step-index c.step-item.result c.loop-step-test.true
    c.step-item.is c.loop-step.invariant.typed in
    (search (rules, the_lemmas), typed)

pub join_all-concat-bits-requires : goal.join_all-concat-bits-requires
join_all-concat-bits-requires t c =
    let e =
    step_at Seen seen_node c.args.parts.now c.loop-part.part-index c.part-item.result c.loop-part-test.true
    c.part-item.is in
    let v = rw e at c.loop-part.invariant.width in
    omega (
      arith,
      v,
      c.requires.fits,
      c.own_value.ensures.width,
      total_above (c.loop-part.bits.width + width_of (node_term c.part-item.result))
          (map seen_node (drop (c.loop-part.part-index + 1) c.args.parts.now)),
    )

pub node_value-join_all-requires : goal.node_value-join_all-requires
node_value-join_all-requires t c =
    let o =
    opens_concat c.args.node.now c.in-Concat.field-0 c.in-Concat.first c.in-Concat.parts c.in-Concat.is
    c.requires.typed in (
      search (rules, the_lemmas),
      (
        rw c.deref-in-Concat-2.ensures.value o.parts_typed,
        rw (c.deref-in-Concat-2.ensures.value, c.own_value-high.ensures.width, c.deref-in-Concat.ensures)
            (omega (arith, o.total, ap width_of o.term, o.width.is, o.width.at_most_128)),
      ),
    )

pub node_value-zext-requires-in-Concat-clause-larger : goal.node_value-zext-requires-in-Concat-clause-larger
node_value-zext-requires-in-Concat-clause-larger t c =
    let o =
    opens_concat c.args.node.now c.in-Concat.field-0 c.in-Concat.first c.in-Concat.parts c.in-Concat.is
    c.requires.typed in
    let e : c.join_all.result.width ≡ width_of (node_term c.args.node.now) =
    c.join_all.ensures.width
    ∙ rw (c.deref-in-Concat-2.ensures.value, c.own_value-high.ensures.width, c.deref-in-Concat.ensures) o.total in
    omega (arith, e, c.requires.context)

pub node_value-returns-in-Concat-clause-value : goal.node_value-returns-in-Concat-clause-value
node_value-returns-in-Concat-clause-value t c =
    let s = samples_of c.args.rows.now in
    let o =
    opens_concat c.args.node.now c.in-Concat.field-0 c.in-Concat.first c.in-Concat.parts c.in-Concat.is
    c.requires.typed in
    let v =
    ap (λ (x : Term). value_of s x c.args.tick c.args.width) o.term
    ∙ value-joined s c.args.tick c.args.width (node_term c.in-Concat.first.value)
    (map seen_node c.in-Concat.parts.items) o.some in
    c.zext-in-Concat.ensures.value ∙ c.join_all.ensures.value
    ∙ rw (c.deref-in-Concat-2.ensures.value, c.own_value-high.ensures.value, c.deref-in-Concat.ensures) (sym v)

pub node_value-node_value-sum-requires : goal.node_value-node_value-sum-requires
node_value-node_value-sum-requires t c =
    let o =
    opens_sums c.args.node.now c.in-Arithmetic.field-0 c.in-Arithmetic.first c.in-Arithmetic.steps
    c.in-Arithmetic.is c.requires.typed in
    let n =
    narrow_sums (node_term c.in-Arithmetic.first.value) (map step_of c.in-Arithmetic.steps.items) c.args.width
    (rw o.chain.term at c.requires.context) in (
      search (rules, the_lemmas),
      (
        rw c.deref-in-Arithmetic.ensures o.chain.first_typed,
        (rw c.deref-in-Arithmetic.ensures n.0, c.requires.at_most_128),
      ),
    )

pub node_value-combine_all-requires : goal.node_value-combine_all-requires
node_value-combine_all-requires t c =
    let o =
    opens_sums c.args.node.now c.in-Arithmetic.field-0 c.in-Arithmetic.first c.in-Arithmetic.steps
    c.in-Arithmetic.is c.requires.typed in
    let n =
    narrow_sums (node_term c.in-Arithmetic.first.value) (map step_of c.in-Arithmetic.steps.items) c.args.width
    (rw o.chain.term at c.requires.context) in (
      search (rules, the_lemmas),
      (
        rw c.deref-in-Arithmetic-2.ensures.value o.chain.steps_typed,
        rw (c.deref-in-Arithmetic-2.ensures.value, c.node_value-sum.ensures.width) n.1,
      ),
    )

pub node_value-returns-in-Arithmetic-clause-value : goal.node_value-returns-in-Arithmetic-clause-value
node_value-returns-in-Arithmetic-clause-value t c =
    let s = samples_of c.args.rows.now in
    let o =
    opens_sums c.args.node.now c.in-Arithmetic.field-0 c.in-Arithmetic.first c.in-Arithmetic.steps
    c.in-Arithmetic.is c.requires.typed in
    let v =
    ap (λ (x : Term). value_of s x c.args.tick c.args.width) o.chain.term
    ∙ value-sums s c.args.tick c.args.width (node_term c.in-Arithmetic.first.value)
    (map step_of c.in-Arithmetic.steps.items) in
    c.combine_all.ensures.value
    ∙ rw (
      c.deref-in-Arithmetic-2.ensures.value,
      c.node_value-sum.ensures.width,
      c.node_value-sum.ensures.value,
      c.deref-in-Arithmetic.ensures,
    ) (sym v)

pub node_value-node_value-shifted-requires : goal.node_value-node_value-shifted-requires
node_value-node_value-shifted-requires t c =
    let o =
    opens_shifts c.args.node.now c.in-Shift.field-0 c.in-Shift.first c.in-Shift.steps c.in-Shift.is
    c.requires.typed in
    let w : width_of (node_term c.args.node.now) ≡ width_of (node_term c.in-Shift.first.value) =
    ap width_of o.chain.term
    ∙ width-shifted (node_term c.in-Shift.first.value) (map step_of c.in-Shift.steps.items) in (
      search (rules, the_lemmas),
      (
        rw c.deref-in-Shift.ensures o.chain.first_typed,
        (rw c.deref-in-Shift.ensures (omega (arith, w, c.requires.context)), c.requires.at_most_128),
      ),
    )

pub node_value-shift_all-requires : goal.node_value-shift_all-requires
node_value-shift_all-requires t c =
    let o =
    opens_shifts c.args.node.now c.in-Shift.field-0 c.in-Shift.first c.in-Shift.steps c.in-Shift.is
    c.requires.typed in
    (search (rules, the_lemmas), rw c.deref-in-Shift-2.ensures.value o.chain.steps_typed)

pub node_value-returns-in-Shift-clause-value : goal.node_value-returns-in-Shift-clause-value
node_value-returns-in-Shift-clause-value t c =
    let s = samples_of c.args.rows.now in
    let o =
    opens_shifts c.args.node.now c.in-Shift.field-0 c.in-Shift.first c.in-Shift.steps c.in-Shift.is
    c.requires.typed in
    let v =
    ap (λ (x : Term). value_of s x c.args.tick c.args.width) o.chain.term
    ∙ value-shifts s c.args.tick c.args.width (node_term c.in-Shift.first.value)
    (map step_of c.in-Shift.steps.items) in
    c.shift_all.ensures.value
    ∙ rw (
      c.deref-in-Shift-2.ensures.value,
      c.node_value-shifted.ensures.width,
      c.node_value-shifted.ensures.value,
      c.deref-in-Shift.ensures,
    ) (sym v)

pub node_value-node_value-left-requires : goal.node_value-node_value-left-requires
node_value-node_value-left-requires t c =
    let o =
    opens_compare c.args.node.now c.in-Compare.larger c.in-Compare.first c.in-Compare.steps c.in-Compare.is
    c.requires.typed in (
      search (rules, the_lemmas),
      (
        rw c.deref-in-Compare.ensures o.chain.first_typed,
        (rw c.deref-in-Compare.ensures (omega (arith, o.width.is, o.first_narrow)), o.width.at_most_128),
      ),
    )

pub node_value-compare_all-requires : goal.node_value-compare_all-requires
node_value-compare_all-requires t c =
    let o =
    opens_compare c.args.node.now c.in-Compare.larger c.in-Compare.first c.in-Compare.steps c.in-Compare.is
    c.requires.typed in
    (search (rules, the_lemmas), rw c.deref-in-Compare-2.ensures.value o.chain.steps_typed)

pub node_value-zext-requires-in-Compare-clause-larger : goal.node_value-zext-requires-in-Compare-clause-larger
node_value-zext-requires-in-Compare-clause-larger t c =
    let o =
    opens_compare c.args.node.now c.in-Compare.larger c.in-Compare.first c.in-Compare.steps c.in-Compare.is
    c.requires.typed in
    let all = map step_of c.in-Compare.steps.items in
    let one : c.compare_all.result.width ≡ 1 =
    c.compare_all.ensures.width
    ∙ rw c.deref-in-Compare-2.ensures.value (one_tested c.node_value-left.result.width all o.some) in
    omega (arith, one, o.one, c.requires.context)

pub node_value-returns-in-Compare-clause-value : goal.node_value-returns-in-Compare-clause-value
node_value-returns-in-Compare-clause-value t c =
    let s = samples_of c.args.rows.now in
    let o =
    opens_compare c.args.node.now c.in-Compare.larger c.in-Compare.first c.in-Compare.steps c.in-Compare.is
    c.requires.typed in
    let all = map step_of c.in-Compare.steps.items in
    let v =
    ap (λ (x : Term). value_of s x c.args.tick c.args.width) o.chain.term
    ∙ value-comparisons s c.args.tick c.args.width (node_term c.in-Compare.first.value) all c.in-Compare.larger
    o.width.is o.width.some_bits in
    c.zext-in-Compare.ensures.value ∙ c.compare_all.ensures.value
    ∙ rw (
      c.deref-in-Compare-2.ensures.value,
      c.node_value-left.ensures.width,
      c.node_value-left.ensures.value,
      c.deref-in-Compare.ensures,
    ) (sym v)

pub node_value-connect_all-requires : goal.node_value-connect_all-requires
node_value-connect_all-requires t c =
    let o = opens_connect c.args.node.now c.in-Connect.first c.in-Connect.steps c.in-Connect.is c.requires.typed in
    (search (rules, the_lemmas), rw c.deref-in-Connect-2.ensures.value o.chain.steps_typed)

pub node_value-zext-requires-in-Connect-clause-larger : goal.node_value-zext-requires-in-Connect-clause-larger
node_value-zext-requires-in-Connect-clause-larger t c =
    let o = opens_connect c.args.node.now c.in-Connect.first c.in-Connect.steps c.in-Connect.is c.requires.typed in
    let all = map step_of c.in-Connect.steps.items in
    let one : c.connect_all.result.width ≡ 1 =
    c.connect_all.ensures.width
    ∙ rw c.deref-in-Connect-2.ensures.value (one_tested c.own_value-left.result.width all o.some) in
    omega (arith, one, o.one, c.requires.context)

pub node_value-returns-in-Connect-clause-value : goal.node_value-returns-in-Connect-clause-value
node_value-returns-in-Connect-clause-value t c =
    let s = samples_of c.args.rows.now in
    let o = opens_connect c.args.node.now c.in-Connect.first c.in-Connect.steps c.in-Connect.is c.requires.typed in
    let all = map step_of c.in-Connect.steps.items in
    let v =
    ap (λ (x : Term). value_of s x c.args.tick c.args.width) o.chain.term
    ∙ value-connections s c.args.tick c.args.width (node_term c.in-Connect.first.value) all o.some in
    c.zext-in-Connect.ensures.value ∙ c.connect_all.ensures.value
    ∙ rw (c.deref-in-Connect-2.ensures.value, c.own_value-left.ensures.value, c.deref-in-Connect.ensures) (sym v)

pub node_value-node_value-requires-then-own_value-eq0 : goal.node_value-node_value-requires-then-own_value-eq0
node_value-node_value-requires-then-own_value-eq0 t c =
    let o =
    opens_choose c.args.node.now c.in-Choose.field-0 c.in-Choose.condition c.in-Choose.first c.in-Choose.second
    c.in-Choose.is c.requires.typed in (
      search (rules, the_lemmas),
      (
        rw c.deref-then-own_value-eq0.ensures o.second_typed,
        (
          rw c.deref-then-own_value-eq0.ensures (omega (arith, ap width_of o.term, c.requires.context)),
          c.requires.at_most_128,
        ),
      ),
    )

pub node_value-node_value-requires-else-own_value-eq0 : goal.node_value-node_value-requires-else-own_value-eq0
node_value-node_value-requires-else-own_value-eq0 t c =
    let o =
    opens_choose c.args.node.now c.in-Choose.field-0 c.in-Choose.condition c.in-Choose.first c.in-Choose.second
    c.in-Choose.is c.requires.typed in (
      search (rules, the_lemmas),
      (
        rw c.deref-else-own_value-eq0.ensures o.first_typed,
        (
          rw c.deref-else-own_value-eq0.ensures (omega (arith, ap width_of o.term, c.requires.context)),
          c.requires.at_most_128,
        ),
      ),
    )
