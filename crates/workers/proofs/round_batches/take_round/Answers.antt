use Rattle.std.proofs.Common.{◌≡◌, ◌+◌, ◌<◌, ◌++◌, ℕ, zero, suc, Some, length, ap, ◌∙◌, sym, refl}
use Rattle.std.proofs.Common.{subst, get_or, arith}
use Rattle.std.specs.Prelude.{slice_get}
use Rattle.std.proofs.lemmas.List.{length-set}
use Rattle.std.proofs.lemmas.Option.{slice_get_within}
use Rattle.workers_core.proofs.CorePartLaws.{get-some}
use Rattle.verdicts.specs.Receipts.{shown_by}
use Rattle.workers_core.specs.declared.growing_line.GrowingLine.{GrowingLine}
use Rattle.workers_core.specs.Taken.{TookIn}
use Rattle.workers_core.proofs.TakenLaws.{each-but}
use Rattle.workers.specs.declared.worker.Published.{Published}
use Rattle.workers.specs.Taking.{Takes}
use Rattle.workers.proofs.Telling.{get-other, some-is}
use Rattle.workers.proofs.round_batches.take_round.Goals as goal

below-other : (k n : ℕ) → k < n + 1 → (k ≡ n → ⊥) → k < n
below-other zero zero lt other = absurd (other refl)
below-other zero (suc n) lt other = omega arith
below-other (suc k) zero lt other = absurd (omega (arith, lt))
below-other (suc k) (suc n) lt other = omega (arith, below-other k n (omega (arith, lt)) (λ e. other (ap suc e)))

pub take_line-requires : goal.take_line-requires
take_line-requires c =
    let n = c.loop-number.number in
    let ls = c.loop-number.lines.items in
    let pub_ = c.args.published.now in
    let l : GrowingLine = c.index_mut.result.now in
    let p : Published = c.index-published-number.result in
    let lt : n < length pub_ = c.loop-number-test.true in
    let inside : n < length ls = omega (arith, c.loop-number.invariant.long, c.requires.long, lt) in
    let old : slice_get c.args.lines.now.items n ≡ Some l =
    sym (c.loop-number.invariant.rest n (omega arith)) ∙ get-some ls n l inside
    ∙ ap (λ x. Some x) (sym c.index_mut.ensures.value) in
    let at : slice_get pub_ n ≡ Some p = get-some pub_ n p lt ∙ ap (λ x. Some x) (sym c.index-published-number.is) in
    let counted : TookIn (get_or pub_ n p).line (shown_by p.receipt).decided.items =
    subst (λ (r : Published). TookIn (get_or pub_ n p).line (shown_by r.receipt).decided.items)
    (sym c.index-published-number.is) (c.requires.counted n p lt) in
    omega (arith, c.requires.room n l p old at, counted.many)

pub loop-number-init : goal.loop-number-init
loop-number-init c = record {
  long = refl;
  first = λ i x y p lt. absurd (omega (arith, lt));
  rest = λ i le. refl;
}

pub loop-number-preserved : goal.loop-number-preserved
loop-number-preserved c =
    let n = c.loop-number.number in
    let ls = c.loop-number.lines.items in
    let pub_ = c.args.published.now in
    let inv = c.loop-number.invariant in
    let l : GrowingLine = c.index_mut.result.now in
    let p : Published = c.index-published-number.result in
    let new : GrowingLine = c.take_line.new.self in
    let lt : n < length pub_ = c.loop-number-test.true in
    let inside : n < length ls = omega (arith, inv.long, c.requires.long, lt) in
    let old : slice_get c.args.lines.now.items n ≡ Some l =
    sym (inv.rest n (omega arith)) ∙ get-some ls n l inside ∙ ap (λ x. Some x) (sym c.index_mut.ensures.value) in
    let at : slice_get pub_ n ≡ Some p = get-some pub_ n p lt ∙ ap (λ x. Some x) (sym c.index-published-number.is) in
    let counted : TookIn (get_or pub_ n p).line (shown_by p.receipt).decided.items =
    subst (λ (r : Published). TookIn (get_or pub_ n p).line (shown_by r.receipt).decided.items)
    (sym c.index-published-number.is) (c.requires.counted n p lt) in
    record {
      long = length-set ls n new ∙ inv.long;
      first = λ i x y q less was here now.
          each-but (λ k z. k < n + 1 → (u : GrowingLine) (v : Published) → slice_get c.args.lines.now.items k ≡ Some u
          → slice_get pub_ k ≡ Some v → Takes u (shown_by v.receipt).decided.items z) ls n new
          (λ k z other e under u v was here. inv.first k u z v (below-other k n under other) was here e)
          (λ under u v was here before took.
          let is : u ≡ l = some-is u l (sym was ∙ old) in
          let one : v ≡ p = some-is v p (sym here ∙ at) in
          subst (λ (r : Published). TookIn new (before ++ (shown_by r.receipt).decided.items)) (sym one)
          (c.in_ok-take_line.ensures.took before (shown_by p.receipt).decided.items
          (subst (λ (z : GrowingLine). TookIn z before) is took) counted))
          i y now less x q was here;
      rest = λ i le. get-other ls n i new (λ e. omega (arith, e, le)) ∙ inv.rest i (omega (arith, le));
    }

pub returns-clause-took : goal.returns-clause-took
returns-clause-took c = λ i l m p old at new.
    c.loop-number.invariant.first i l m p
    (omega (arith, slice_get_within c.args.published.now i p at, c.loop-number-test.false)) old at new
