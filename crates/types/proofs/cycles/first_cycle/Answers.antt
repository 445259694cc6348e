use Rattle.std.proofs.Common.{◌≡◌, ℕ, map, length, sym, ◌∙◌, subst, arith, refl}
use Rattle.std.proofs.lemmas.Bool.{false≢true}
use Rattle.types.specs.Views.{draft_of}
use Rattle.types.specs.CycleStages.{IsFirstCycle}
use Rattle.types.proofs.CycleLaws.{cycle_none, cycle_above, cycle_found}
use Rattle.types.proofs.cycles.first_cycle.Goals as goal

pub loop-place-preserved-then-is_above : goal.loop-place-preserved-then-is_above
loop-place-preserved-then-is_above c =
    cycle_above (map draft_of c.args.bodies.now) c.args.bytes.now c.loop-place.place c.loop-place.fault
    (c.is_above.ensures.0 c.if-is_above.true) c.loop-place.invariant

pub loop-place-preserved-then-not-branch : goal.loop-place-preserved-then-not-branch
loop-place-preserved-then-not-branch c =
    cycle_none (map draft_of c.args.bodies.now) c.args.bytes.now c.loop-place.place c.loop-place.fault
    (λ cyclic. false≢true (sym c.if-not-branch.true ∙ c.in_ok-is_cyclic.ensures.1 cyclic)) c.loop-place.invariant

pub loop-place-preserved : goal.loop-place-preserved
loop-place-preserved c =
    cycle_found (map draft_of c.args.bodies.now) c.args.bytes.now c.loop-place.place _ c.loop-place.fault refl
    (λ most. false≢true (sym c.if-is_above.false ∙ c.is_above.ensures.1 most))
    (c.in_ok-is_cyclic.ensures.0 c.if-not-branch.false) c.loop-place.invariant

pub returns : goal.returns
returns c =
    subst (λ (n : ℕ). IsFirstCycle (map draft_of c.args.bodies.now) c.args.bytes.now n c.loop-place.fault)
    (let e : c.loop-place.place ≡ length c.args.bodies.now =
    omega (arith, c.loop-place-test.false, c.loop-place.auto.place-end) in e) c.loop-place.invariant
