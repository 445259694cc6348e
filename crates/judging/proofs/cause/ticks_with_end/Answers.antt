use Rattle.std.proofs.Common.{◌≡◌, ◌∙◌, ◌+◌, ℕ, sym, ap, subst, arith, Vec, Global}
use Rattle.std.specs.Prelude.{◌↔◌, Contains}
use Rattle.judging.specs.Causes.{IsEndTick}
use Rattle.judging.proofs.CauseLaws.{placed_more, placed_skip}
use Rattle.judging.proofs.cause.ticks_with_end.Goals.{then-is_marked+in_ok-push, else-is_marked}
use Rattle.judging.proofs.cause.ticks_with_end.Goals as goal

pub loop-place-preserved : goal.loop-place-preserved
loop-place-preserved c =
    let ends = c.args.ends.now in
    let place = c.loop-place.place in
    let old = c.loop-place.ticks.items in
    elim c.if-is_marked.branch [
      | then-is_marked+in_ok-push w ↦
          placed_more ends c.args.start place old c.if-is_marked.ticks.items
          (ap (λ (v : Vec ℕ Global). v.items) w.ticks-is ∙ w.in_ok-push.ensures.items) (sym w.if-is_marked.ensures)
          c.loop-place.invariant
      | else-is_marked w ↦
          subst (λ (v : Vec ℕ Global). (t : ℕ) → Contains v.items t ↔ IsEndTick ends c.args.start (place + 1) t)
          (sym w.ticks-is)
          (placed_skip ends c.args.start place old (sym w.if-is_marked.ensures) c.loop-place.invariant)
    ]

pub returns : goal.returns
returns c =
    let at : c.loop-place.place ≡ c.args.below = omega arith in
    subst (λ n. (t : ℕ) → Contains c.loop-place.ticks.items t ↔ IsEndTick c.args.ends.now c.args.start n t) at
    c.loop-place.invariant
