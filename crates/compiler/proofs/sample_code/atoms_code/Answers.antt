use Rattle.std.proofs.Common.{◌+◌, ◌∙◌, drop, arith}
use Rattle.compiler.specs.Samples.{atoms_code}
use Rattle.compiler.specs.Chosen.{terms_at}
use Rattle.compiler.specs.Slots.{slots_in}
use Rattle.compiler.proofs.ChosenLaws.{terms_more, terms_skip}
use Rattle.compiler.proofs.WrittenLaws.{written-rest}
use Rattle.compiler.proofs.sample_code.atoms_code.Goals as goal

pub loop-place-preserved-in_default : goal.loop-place-preserved-in_default
loop-place-preserved-in_default c =
    let places = c.args.places.now in
    let i = c.loop-place.place-index in
    let all = c.args.booleans.now in
    let inv = c.loop-place.invariant in
    let e = terms_skip places i c.loop-place-test.true all c.in_default.ensures.lookup.3 in
    record {
      same = rw e at inv.same;
      few = omega (arith, inv.few);
      near = rw e at inv.near;
    }

pub atom_code-requires : goal.atom_code-requires
atom_code-requires c =
    let places = c.args.places.now in
    let i = c.loop-place.place-index in
    let all = c.args.booleans.now in
    let inv = c.loop-place.invariant in
    let seen = c.in-Some.ensures.lookup in
    let x = c.in-Some.expr.now in
    let e = terms_more places i c.loop-place-test.true all x seen.3.0 seen.1 in
    let near = rw e at inv.near in
    record { near = omega (arith, near) }

pub loop-place-preserved : goal.loop-place-preserved
loop-place-preserved c =
    let places = c.args.places.now in
    let i = c.loop-place.place-index in
    let all = c.args.booleans.now in
    let inv = c.loop-place.invariant in
    let seen = c.in-Some.ensures.lookup in
    let x = c.in-Some.expr.now in
    let e = terms_more places i c.loop-place-test.true all x seen.3.0 seen.1 in
    let at = slots_in c.args.slots.now in
    let rest = atoms_code at (c.loop-place.atom + 1) (terms_at all (drop (i + 1) places)) in
    let near = rw e at inv.near in
    record {
      same = written-rest c.in_ok-atom_code.ensures rest ∙ (rw e at inv.same);
      few = omega (arith, inv.few);
      near = omega (arith, near);
    }
