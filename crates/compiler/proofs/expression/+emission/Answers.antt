use Rattle.std.proofs.Common.{rules, ◌≡◌, ◌∙◌, ℕ, ◌+◌, ◌≤◌, max, ◌++◌, map, drop, false}
use Rattle.std.proofs.Common.{refl, sym, ap, arith}
use Rattle.expressions.specs.declared.operator.Arithmetic.{Arithmetic}
use Rattle.expressions.specs.declared.operator.Shift.{Shift}
use Rattle.expressions.specs.declared.operator.Comparison.{Comparison}
use Rattle.expressions.specs.declared.operator.Connective.{Connective}
use Rattle.expressions.specs.declared.node.Node.TheViews.{the_lemmas}
use Rattle.expressions.specs.Terms.{Term, combine, shift, compare, connect, width_of}
use Rattle.expressions.specs.Nodes.{Seen, seen_node, node_term, step_of}
use Rattle.expressions.proofs.Chains.{step_at, typed_at, narrow_at, narrow_sums, width-shifted}
use Rattle.expressions.proofs.Opened.{opens_group, opens_concat, opens_complement, opens_reduce}
use Rattle.expressions.proofs.Opened.{opens_sums, opens_shifts, opens_compare, opens_connect}
use Rattle.expressions.proofs.Opened.{opens_choose, opens_past, opens_change}
use Rattle.compiler.specs.Codes.{extension, bit_test, comparison_middle, comparison_end}
use Rattle.compiler.specs.Codes.{connective_end, reads_slot, code_of, reach}
use Rattle.compiler.specs.Chains.{sums_code, shifts_code, compares_code, connects_code}
use Rattle.compiler.specs.Chains.{parts_code}
use Rattle.compiler.specs.Slots.{slots_in}
use Rattle.compiler.specs.Written.{written}
use Rattle.compiler.proofs.ChainLaws.{code-sums, code-shifts, code-comparisons}
use Rattle.compiler.proofs.ChainLaws.{code-connections, code-parts, reach-chain, reach-parts}
use Rattle.compiler.proofs.ChainLaws.{near_at, near_later, typed_later, narrow_later}
use Rattle.compiler.proofs.ChainLaws.{parts_near_later, parts_typed_later}
use Rattle.compiler.proofs.WrittenLaws.{writes-then, writes-as, writes-too_long}
use Rattle.compiler.proofs.WrittenLaws.{written-rest, on-ok, none-is}
use Rattle.compiler.proofs.expression.+emission.Goals as goal

pub combine_all-node_code-requires : goal.combine_all-node_code-requires
combine_all-node_code-requires t c =
    let x = c.step-item.result in
    let steps = c.args.steps.now in
    let i = c.loop-step.step-index in
    let lt = c.loop-step-test.true in
    let is = c.step-item.is in
    let inv = c.loop-step.invariant in
    let typed = typed_at Arithmetic steps i x lt is inv.typed in
    let near = near_at steps i x lt is c.args.back inv.near in
    let narrow = narrow_at Arithmetic c.args.width steps i x lt is inv.narrow in
    (search (rules, the_lemmas), (typed, (narrow, near)))

pub shift_all-own_code-requires : goal.shift_all-own_code-requires
shift_all-own_code-requires t c =
    let x = c.step-item.result in
    let steps = c.args.steps.now in
    let i = c.loop-step.step-index in
    let lt = c.loop-step-test.true in
    let is = c.step-item.is in
    let inv = c.loop-step.invariant in
    let typed = typed_at Shift steps i x lt is inv.typed in
    let near = near_at steps i x lt is c.args.back inv.near in
    (search (rules, the_lemmas), (typed, near))

pub connect_all-own_code-requires : goal.connect_all-own_code-requires
connect_all-own_code-requires t c =
    let x = c.step-item.result in
    let steps = c.args.steps.now in
    let i = c.loop-step.step-index in
    let lt = c.loop-step-test.true in
    let is = c.step-item.is in
    let inv = c.loop-step.invariant in
    let typed = typed_at Connective steps i x lt is inv.typed in
    let near = near_at steps i x lt is c.args.back inv.near in
    (search (rules, the_lemmas), (typed, near))

pub compare_all-node_code-requires : goal.compare_all-node_code-requires
compare_all-node_code-requires t c =
    let x = c.step-item.result in
    let steps = c.args.steps.now in
    let i = c.loop-step.step-index in
    let lt = c.loop-step-test.true in
    let is = c.step-item.is in
    let inv = c.loop-step.invariant in
    let typed = typed_at Comparison steps i x lt is inv.typed in
    let near = near_at steps i x lt is c.args.back inv.near in
    let wide : width_of (node_term x.1) ≤ c.max-larger.result =
    omega (arith, c.max-larger.ensures, c.width_of.ensures.own) in
    (search (rules, the_lemmas), (typed, (wide, near)))

pub combine_all-loop-step-preserved : goal.combine_all-loop-step-preserved
combine_all-loop-step-preserved t c =
    let at = slots_in c.args.slots.now in
    let x = c.step-item.result in
    let steps = c.args.steps.now in
    let i = c.loop-step.step-index in
    let lt = c.loop-step-test.true in
    let is = c.step-item.is in
    let inv = c.loop-step.invariant in
    let e = step_at (Arithmetic × Seen) step_of steps i x lt is in
    let rest = sums_code at c.args.width c.args.back (map step_of (drop (i + 1) steps)) in
    record {
      same = written-rest (writes-then (c.in_ok-node_code.ensures) (c.in_ok-combine.ensures)) rest
          ∙ (rw e at inv.same);
      typed = typed_later steps i x lt is inv.typed;
      narrow = narrow_later steps i x lt is c.args.width inv.narrow;
      near = near_later steps i x lt is c.args.back inv.near;
    }

pub shift_all-loop-step-preserved : goal.shift_all-loop-step-preserved
shift_all-loop-step-preserved t c =
    let at = slots_in c.args.slots.now in
    let x = c.step-item.result in
    let steps = c.args.steps.now in
    let i = c.loop-step.step-index in
    let lt = c.loop-step-test.true in
    let is = c.step-item.is in
    let inv = c.loop-step.invariant in
    let e = step_at (Shift × Seen) step_of steps i x lt is in
    let rest = shifts_code at c.args.back (map step_of (drop (i + 1) steps)) in
    record {
      same = written-rest (writes-then (c.in_ok-own_code.ensures) (c.in_ok-shift.ensures)) rest
          ∙ (rw e at inv.same);
      typed = typed_later steps i x lt is inv.typed;
      near = near_later steps i x lt is c.args.back inv.near;
    }

pub compare_all-loop-step-preserved : goal.compare_all-loop-step-preserved
compare_all-loop-step-preserved t c =
    let at = slots_in c.args.slots.now in
    let x = c.step-item.result in
    let steps = c.args.steps.now in
    let i = c.loop-step.step-index in
    let lt = c.loop-step-test.true in
    let is = c.step-item.is in
    let inv = c.loop-step.invariant in
    let e = step_at (Comparison × Seen) step_of steps i x lt is in
    let rest = compares_code at 1 c.args.back (map step_of (drop (i + 1) steps)) in
    let w = c.loop-step.left in
    let larger : c.max-larger.result ≡ max w (width_of (node_term x.1)) =
    omega (arith, c.max-larger.ensures, c.width_of.ensures.own) in
    let front = λ (m : ℕ). extension w m ++ comparison_middle x.0
    ++ code_of at (node_term x.1) m c.args.back ++ comparison_end x.0 in
    let two = writes-then (c.in_ok-extend.ensures) (c.in_ok-turn.ensures) in
    let four = writes-then (writes-then two (c.in_ok-node_code.ensures)) (c.in_ok-compare.ensures)
    in
    record {
      same = written-rest four rest
          ∙ (ap (λ m. written c.loop-step.code (front m ++ rest)) larger ∙ (rw e at inv.same));
      typed = typed_later steps i x lt is inv.typed;
      near = near_later steps i x lt is c.args.back inv.near;
    }

pub connect_all-loop-step-preserved : goal.connect_all-loop-step-preserved
connect_all-loop-step-preserved t c =
    let at = slots_in c.args.slots.now in
    let x = c.step-item.result in
    let steps = c.args.steps.now in
    let i = c.loop-step.step-index in
    let lt = c.loop-step-test.true in
    let is = c.step-item.is in
    let inv = c.loop-step.invariant in
    let e = step_at (Connective × Seen) step_of steps i x lt is in
    let rest = connects_code at 1 c.args.back (map step_of (drop (i + 1) steps)) in
    let e' = node_term x.1 in
    let front = λ (m : ℕ). bit_test c.loop-step.left ++ code_of at e' (width_of e') c.args.back
    ++ bit_test m ++ connective_end x.0 in
    let two = writes-then (c.in_ok-test_bit.ensures) (c.in_ok-own_code.ensures) in
    let four = writes-then (writes-then two (c.in_ok-test_bit-2.ensures)) (c.in_ok-connect.ensures)
    in
    record {
      same = written-rest four rest
          ∙ (ap (λ m. written c.loop-step.code (front m ++ rest)) c.width_of.ensures.own
          ∙ (rw e at inv.same));
      typed = typed_later steps i x lt is inv.typed;
      near = near_later steps i x lt is c.args.back inv.near;
    }

pub join_all-loop-part-preserved : goal.join_all-loop-part-preserved
join_all-loop-part-preserved t c =
    let at = slots_in c.args.slots.now in
    let x = c.part-item.result in
    let parts = c.args.parts.now in
    let i = c.loop-part.part-index in
    let lt = c.loop-part-test.true in
    let is = c.part-item.is in
    let inv = c.loop-part.invariant in
    let e = step_at Seen seen_node parts i x lt is in
    let rest = parts_code at c.args.back (map seen_node (drop (i + 1) parts)) in
    record {
      same = written-rest (writes-then (c.in_ok-own_code.ensures) (c.in_ok-put.ensures)) rest
          ∙ (rw e at inv.same);
      typed = parts_typed_later parts i x lt is inv.typed;
      near = parts_near_later parts i x lt is c.args.back inv.near;
    }

pub before_code-returns : goal.before_code-returns
before_code-returns t c =
    let no : reads_slot (node_term c.args.node.now) ≡ false =
    sym c.reads_slot.ensures ∙ c.if-reads_slot.false in
    let first = writes-then (c.in_ok-read_slot.ensures) (c.in_ok-own_code.ensures) in
    on-ok c.put-2.result c.put-2.ensures
    (λ last. writes-as (rw (no, c.width_of.ensures.own, c.from.ensures) refl)
    (writes-then first (writes-then (c.in_ok-put.ensures) last)))

pub node_code-returns-then-is_long : goal.node_code-returns-then-is_long
node_code-returns-then-is_long t c =
    writes-too_long
    (code_of (slots_in c.args.slots.now) (node_term c.args.node.now) c.args.width c.args.back)
    (none-is c.args.code.now (sym c.is_long.ensures ∙ c.if-is_long.true))

pub node_code-own_code-requires-in-Concat : goal.node_code-own_code-requires-in-Concat
node_code-own_code-requires-in-Concat t c =
    let v = c.in-Concat in
    let o = opens_concat c.args.node.now v.own v.first v.parts v.is c.requires.typed in
    let far = ap reach o.term ∙ reach-parts (node_term v.first.value) (map seen_node v.parts.items)
    in (
      search (rules, the_lemmas),
      (
        rw c.deref-in-Concat.ensures o.first_typed,
        rw c.deref-in-Concat.ensures (omega (arith, far, c.requires.near)),
      ),
    )

pub node_code-join_all-requires : goal.node_code-join_all-requires
node_code-join_all-requires t c =
    let v = c.in-Concat in
    let o = opens_concat c.args.node.now v.own v.first v.parts v.is c.requires.typed in
    let far = ap reach o.term ∙ reach-parts (node_term v.first.value) (map seen_node v.parts.items)
    in (
      search (rules, the_lemmas),
      (
        rw c.deref-in-Concat-2.ensures.value o.parts_typed,
        rw c.deref-in-Concat-2.ensures.value (omega (arith, far, c.requires.near)),
      ),
    )

pub node_code-node_code-requires-in-Arithmetic : goal.node_code-node_code-requires-in-Arithmetic
node_code-node_code-requires-in-Arithmetic t c =
    let v = c.in-Arithmetic in
    let o = opens_sums c.args.node.now v.field-0 v.first v.steps v.is c.requires.typed in
    let far = ap reach o.chain.term ∙ reach-chain combine (λ op a b. refl) (node_term v.first.value)
    (map (step_of {O = Arithmetic}) v.steps.items) in
    let n = narrow_sums (node_term v.first.value) (map step_of v.steps.items) c.args.width (rw
    o.chain.term at c.requires.context) in (
      search (rules, the_lemmas),
      (
        rw c.deref-in-Arithmetic.ensures o.chain.first_typed,
        (
          rw c.deref-in-Arithmetic.ensures n.0,
          rw c.deref-in-Arithmetic.ensures (omega (arith, far, c.requires.near)),
        ),
      ),
    )

pub node_code-combine_all-requires : goal.node_code-combine_all-requires
node_code-combine_all-requires t c =
    let v = c.in-Arithmetic in
    let o = opens_sums c.args.node.now v.field-0 v.first v.steps v.is c.requires.typed in
    let far = ap reach o.chain.term ∙ reach-chain combine (λ op a b. refl) (node_term v.first.value)
    (map (step_of {O = Arithmetic}) v.steps.items) in
    let n = narrow_sums (node_term v.first.value) (map step_of v.steps.items) c.args.width (rw
    o.chain.term at c.requires.context) in (
      search (rules, the_lemmas),
      (
        rw c.deref-in-Arithmetic-2.ensures.value o.chain.steps_typed,
        (
          rw c.deref-in-Arithmetic-2.ensures.value n.1,
          rw c.deref-in-Arithmetic-2.ensures.value (omega (arith, far, c.requires.near)),
        ),
      ),
    )

pub node_code-node_code-requires-in-Shift : goal.node_code-node_code-requires-in-Shift
node_code-node_code-requires-in-Shift t c =
    let v = c.in-Shift in
    let o = opens_shifts c.args.node.now v.field-0 v.first v.steps v.is c.requires.typed in
    let far = ap reach o.chain.term ∙ reach-chain shift (λ op a b. refl) (node_term v.first.value)
    (map (step_of {O = Shift}) v.steps.items) in
    let w = ap width_of o.chain.term ∙ width-shifted (node_term v.first.value) (map step_of
    v.steps.items) in (
      search (rules, the_lemmas),
      (
        rw c.deref-in-Shift.ensures o.chain.first_typed,
        (
          rw c.deref-in-Shift.ensures (omega (arith, w, c.requires.context)),
          rw c.deref-in-Shift.ensures (omega (arith, far, c.requires.near)),
        ),
      ),
    )

pub node_code-shift_all-requires : goal.node_code-shift_all-requires
node_code-shift_all-requires t c =
    let v = c.in-Shift in
    let o = opens_shifts c.args.node.now v.field-0 v.first v.steps v.is c.requires.typed in
    let far = ap reach o.chain.term ∙ reach-chain shift (λ op a b. refl) (node_term v.first.value)
    (map (step_of {O = Shift}) v.steps.items) in (
      search (rules, the_lemmas),
      (
        rw c.deref-in-Shift-2.ensures.value o.chain.steps_typed,
        rw c.deref-in-Shift-2.ensures.value (omega (arith, far, c.requires.near)),
      ),
    )

pub node_code-node_code-requires-in-Compare : goal.node_code-node_code-requires-in-Compare
node_code-node_code-requires-in-Compare t c =
    let v = c.in-Compare in
    let o = opens_compare c.args.node.now v.larger v.first v.steps v.is c.requires.typed in
    let far = ap reach o.chain.term ∙ reach-chain compare (λ op a b. refl) (node_term v.first.value)
    (map (step_of {O = Comparison}) v.steps.items) in (
      search (rules, the_lemmas),
      (
        rw c.deref-in-Compare.ensures o.chain.first_typed,
        (
          rw c.deref-in-Compare.ensures (omega (arith, o.width.is, o.first_narrow)),
          rw c.deref-in-Compare.ensures (omega (arith, far, c.requires.near)),
        ),
      ),
    )

pub node_code-compare_all-requires : goal.node_code-compare_all-requires
node_code-compare_all-requires t c =
    let v = c.in-Compare in
    let o = opens_compare c.args.node.now v.larger v.first v.steps v.is c.requires.typed in
    let far = ap reach o.chain.term ∙ reach-chain compare (λ op a b. refl) (node_term v.first.value)
    (map (step_of {O = Comparison}) v.steps.items) in (
      search (rules, the_lemmas),
      (
        rw c.deref-in-Compare-2.ensures.value o.chain.steps_typed,
        rw c.deref-in-Compare-2.ensures.value (omega (arith, far, c.requires.near)),
      ),
    )

pub node_code-own_code-requires-in-Connect : goal.node_code-own_code-requires-in-Connect
node_code-own_code-requires-in-Connect t c =
    let v = c.in-Connect in
    let o = opens_connect c.args.node.now v.first v.steps v.is c.requires.typed in
    let far = ap reach o.chain.term ∙ reach-chain connect (λ op a b. refl) (node_term v.first.value)
    (map (step_of {O = Connective}) v.steps.items) in (
      search (rules, the_lemmas),
      (
        rw c.deref-in-Connect.ensures o.chain.first_typed,
        rw c.deref-in-Connect.ensures (omega (arith, far, c.requires.near)),
      ),
    )

pub node_code-connect_all-requires : goal.node_code-connect_all-requires
node_code-connect_all-requires t c =
    let v = c.in-Connect in
    let o = opens_connect c.args.node.now v.first v.steps v.is c.requires.typed in
    let far = ap reach o.chain.term ∙ reach-chain connect (λ op a b. refl) (node_term v.first.value)
    (map (step_of {O = Connective}) v.steps.items) in (
      search (rules, the_lemmas),
      (
        rw c.deref-in-Connect-2.ensures.value o.chain.steps_typed,
        rw c.deref-in-Connect-2.ensures.value (omega (arith, far, c.requires.near)),
      ),
    )

pub node_code-node_code-requires-in-Choose : goal.node_code-node_code-requires-in-Choose
node_code-node_code-requires-in-Choose t c =
    let v = c.in-Choose in
    let o = opens_choose c.args.node.now v.field-0 v.condition v.first v.second v.is
    c.requires.typed in (
      search (rules, the_lemmas),
      (
        rw c.deref-in-Choose-3.ensures o.first_typed,
        (
          rw c.deref-in-Choose-3.ensures (omega (arith, ap width_of o.term, c.requires.context)),
          rw c.deref-in-Choose-3.ensures (omega (arith, ap reach o.term, c.requires.near)),
        ),
      ),
    )

pub node_code-node_code-requires-in-Choose-2 : goal.node_code-node_code-requires-in-Choose-2
node_code-node_code-requires-in-Choose-2 t c =
    let v = c.in-Choose in
    let o = opens_choose c.args.node.now v.field-0 v.condition v.first v.second v.is
    c.requires.typed in (
      search (rules, the_lemmas),
      (
        rw c.deref-in-Choose-4.ensures o.second_typed,
        (
          rw c.deref-in-Choose-4.ensures (omega (arith, ap width_of o.term, c.requires.context)),
          rw c.deref-in-Choose-4.ensures (omega (arith, ap reach o.term, c.requires.near)),
        ),
      ),
    )

pub node_code-returns-in_ok-own_code-in-Group : goal.node_code-returns-in_ok-own_code-in-Group
node_code-returns-in_ok-own_code-in-Group t c =
    let v = c.in-Group in
    let o = opens_group c.args.node.now v.own v.operand v.is c.requires.typed in
    on-ok c.extend-in-Group.result c.extend-in-Group.ensures
    (λ last. writes-as (rw (c.deref.ensures, o.width.is, o.term) refl)
    (writes-then (c.in_ok-own_code-in-Group.ensures) last))

pub node_code-returns-in_ok-node_code-in-Complement :
    goal.node_code-returns-in_ok-node_code-in-Complement
node_code-returns-in_ok-node_code-in-Complement t c =
    let v = c.in-Complement in
    let o = opens_complement c.args.node.now v.field-0 v.operand v.is c.requires.typed in
    on-ok c.put-in-Complement.result c.put-in-Complement.ensures
    (λ last. writes-as (rw (c.deref-in-Complement.ensures, o.term) refl)
    (writes-then (c.in_ok-node_code-in-Complement.ensures) last))

pub node_code-returns-in_ok-reduce-in-Reduce : goal.node_code-returns-in_ok-reduce-in-Reduce
node_code-returns-in_ok-reduce-in-Reduce t c =
    let v = c.in-Reduce in
    let o = opens_reduce c.args.node.now v.op v.operand v.is c.requires.typed in
    on-ok c.extend-in-Reduce.result c.extend-in-Reduce.ensures
    (λ last. writes-as (rw (c.deref-in-Reduce.ensures, o.term) refl)
    (writes-then
    (writes-then (c.in_ok-own_code-in-Reduce.ensures) (c.in_ok-reduce-in-Reduce.ensures)) last))

pub node_code-returns-in_ok-before_code-in-Past : goal.node_code-returns-in_ok-before_code-in-Past
node_code-returns-in_ok-before_code-in-Past t c =
    let v = c.in-Past in
    let o = opens_past c.args.node.now v.own v.operand v.ticks v.is c.requires.typed in
    on-ok c.extend-in-Past.result c.extend-in-Past.ensures
    (λ last. writes-as (rw (c.deref-in-Past.ensures, o.width.is, o.term) refl)
    (writes-then (c.in_ok-before_code-in-Past.ensures) last))

pub node_code-returns-in_ok-compare_ticks-in-Change :
    goal.node_code-returns-in_ok-compare_ticks-in-Change
node_code-returns-in_ok-compare_ticks-in-Change t c =
    let v = c.in-Change in
    let o = opens_change c.args.node.now v.op v.operand v.is c.requires.typed in
    let two = writes-then (c.in_ok-own_code-in-Change.ensures) (c.in_ok-cut_now-in-Change.ensures)
    in
    let four = writes-then (writes-then two (c.in_ok-before_code-in-Change.ensures))
    (c.in_ok-compare_ticks-in-Change.ensures) in
    on-ok c.extend-in-Change.result c.extend-in-Change.ensures
    (λ last. writes-as (rw (c.deref-in-Change.ensures, c.deref-in-Change-2.ensures, o.term) refl)
    (writes-then four last))

pub node_code-returns-in_ok-node_code-in-Choose-2 :
    goal.node_code-returns-in_ok-node_code-in-Choose-2
node_code-returns-in_ok-node_code-in-Choose-2 t c =
    let v = c.in-Choose in
    let o = opens_choose c.args.node.now v.field-0 v.condition v.first v.second v.is
    c.requires.typed in
    let two = writes-then (c.in_ok-own_code-in-Choose.ensures) (c.in_ok-test_bit-in-Choose.ensures)
    in
    let four = writes-then (writes-then two (c.in_ok-node_code-in-Choose.ensures))
    (c.in_ok-node_code-in-Choose-2.ensures) in
    on-ok c.put-in-Choose.result c.put-in-Choose.ensures
    (λ last. writes-as
    (rw (
      c.width_of-in-Choose.ensures.own,
      c.deref-in-Choose.ensures,
      c.deref-in-Choose-2.ensures,
      c.deref-in-Choose-3.ensures,
      c.deref-in-Choose-4.ensures,
      o.term,
    ) refl)
    (writes-then four last))

pub node_code-returns-in_ok-node_code-in-Arithmetic :
    goal.node_code-returns-in_ok-node_code-in-Arithmetic
node_code-returns-in_ok-node_code-in-Arithmetic t c =
    let at = slots_in c.args.slots.now in
    let w = c.args.width in
    let n = c.args.back in
    let v = c.in-Arithmetic in
    let o = opens_sums c.args.node.now v.field-0 v.first v.steps v.is c.requires.typed in
    let whole = ap (λ (e : Term). code_of at e w n) o.chain.term ∙ code-sums at n w (node_term
    v.first.value) (map step_of v.steps.items) in
    on-ok c.combine_all.result c.combine_all.ensures
    (λ last. writes-as
    (rw (c.deref-in-Arithmetic.ensures, c.deref-in-Arithmetic-2.ensures.value) (sym whole))
    (writes-then (c.in_ok-node_code-in-Arithmetic.ensures) last))

pub node_code-returns-in_ok-node_code-in-Shift : goal.node_code-returns-in_ok-node_code-in-Shift
node_code-returns-in_ok-node_code-in-Shift t c =
    let at = slots_in c.args.slots.now in
    let w = c.args.width in
    let n = c.args.back in
    let v = c.in-Shift in
    let o = opens_shifts c.args.node.now v.field-0 v.first v.steps v.is c.requires.typed in
    let whole = ap (λ (e : Term). code_of at e w n) o.chain.term ∙ code-shifts at n w (node_term
    v.first.value) (map step_of v.steps.items) in
    on-ok c.shift_all.result c.shift_all.ensures
    (λ last. writes-as
    (rw (c.deref-in-Shift.ensures, c.deref-in-Shift-2.ensures.value) (sym whole))
    (writes-then (c.in_ok-node_code-in-Shift.ensures) last))

pub node_code-returns-in_ok-compare_all-in-Compare :
    goal.node_code-returns-in_ok-compare_all-in-Compare
node_code-returns-in_ok-compare_all-in-Compare t c =
    let at = slots_in c.args.slots.now in
    let w = c.args.width in
    let n = c.args.back in
    let v = c.in-Compare in
    let o = opens_compare c.args.node.now v.larger v.first v.steps v.is c.requires.typed in
    let whole = ap (λ (e : Term). code_of at e w n) o.chain.term ∙ code-comparisons at n w v.larger
    (node_term v.first.value) (map step_of v.steps.items) o.width.is o.some in
    on-ok c.extend-in-Compare.result c.extend-in-Compare.ensures
    (λ last. writes-as
    (rw (c.deref-in-Compare.ensures, c.deref-in-Compare-2.ensures.value) (sym whole))
    (writes-then
    (writes-then (c.in_ok-node_code-in-Compare.ensures) (c.in_ok-compare_all-in-Compare.ensures))
    last))

pub node_code-returns-in_ok-connect_all-in-Connect :
    goal.node_code-returns-in_ok-connect_all-in-Connect
node_code-returns-in_ok-connect_all-in-Connect t c =
    let at = slots_in c.args.slots.now in
    let w = c.args.width in
    let n = c.args.back in
    let v = c.in-Connect in
    let o = opens_connect c.args.node.now v.first v.steps v.is c.requires.typed in
    let whole = ap (λ (e : Term). code_of at e w n) o.chain.term ∙ code-connections at n w
    (node_term v.first.value) (map step_of v.steps.items) o.some in
    on-ok c.extend-in-Connect.result c.extend-in-Connect.ensures
    (λ last. writes-as
    (rw (
      c.width_of.ensures.own,
      c.deref-in-Connect.ensures,
      c.deref-in-Connect-2.ensures.value,
      c.deref-in-Connect-3.ensures,
    ) (sym whole))
    (writes-then
    (writes-then (c.in_ok-own_code-in-Connect.ensures) (c.in_ok-connect_all-in-Connect.ensures))
    last))

pub node_code-returns-in_ok-join_all-in-Concat : goal.node_code-returns-in_ok-join_all-in-Concat
node_code-returns-in_ok-join_all-in-Concat t c =
    let at = slots_in c.args.slots.now in
    let w = c.args.width in
    let n = c.args.back in
    let v = c.in-Concat in
    let o = opens_concat c.args.node.now v.own v.first v.parts v.is c.requires.typed in
    let whole = ap (λ (e : Term). code_of at e w n) o.term ∙ code-parts at n w v.own (node_term
    v.first.value) (map seen_node v.parts.items) o.width.is o.some in
    on-ok c.extend-in-Concat.result c.extend-in-Concat.ensures
    (λ last. writes-as
    (rw (c.deref-in-Concat.ensures, c.deref-in-Concat-2.ensures.value) (sym whole))
    (writes-then
    (writes-then (c.in_ok-own_code-in-Concat.ensures) (c.in_ok-join_all-in-Concat.ensures))
    last))
