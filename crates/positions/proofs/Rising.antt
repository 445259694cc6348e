-- Edges lead to later positions.
use Rattle.std.proofs.Common.{◌≡◌, true, refl, sym, subst, arith}
use Rattle.assertions.specs.Segments.{always}
use Rattle.positions.specs.Plans.{Plan}
use Rattle.positions.specs.Tables.{Edge, Table, HasNumber, Fires, Enters, IsRising, NumbersStates}
use Rattle.positions.proofs.Lists.{SomeOf-each, EachOf-all}

pub rising : (B : Type 0) (r : Plan B) (t : Table B) → NumbersStates r t → IsRising t
rising B r t spells = record {
  starts = λ q h. let x = (spells.starts q).0 h in omega (arith, spells.below x.0, x.1);
  enters = λ p q below h.
      let x = spells.state p below in
      let enters : Enters always t p 0 q =
      SomeOf-each (λ (e : Edge B). HasNumber e.enters q) (λ e. Fires always 0 e × HasNumber e.enters q) (t.row p)
      (λ e has. (EachOf-all (λ b. always b 0 ≡ true) e.wanted (λ b. refl), has)) h in
      let y = (spells.enters always x.0 0 q).0 (subst (λ k. Enters always t k 0 q) (sym x.1) enters) in
      let up = spells.rises always x.0 y.0 0 y.2 in
      (omega (arith, x.1, y.1, up), omega (arith, spells.below y.0, y.1));
}
