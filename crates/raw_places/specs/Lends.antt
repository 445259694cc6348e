-- What the places hold once a `&mut` to the value of one of them has ended.
use Rattle.std.specs.Prelude.{ℕ, slice_set, Some}
use Rattle.std.specs.Borrow.{Fml, RattleType, MutBor, Lends}
use mathlib.Core.Path.{sym, ◌∙◌}
use lib.ListN.{length-set}
use Rattle.raw_places.specs.declared.places.Places.{Places}
use Rattle.raw_places.specs.contracts.places.Places.{the_row}

-- the same places, with another value in one
abbrev pub with_value : {X : Type 0} → Places X → ℕ → X → Places X
with_value p index value = record {
  start = p.start;
  count = p.count;
  held = slice_set p.held index (Some value);
  all = p.all ∙ sym (length-set p.held index (Some value));
}

-- a `&mut` to the value of one place: what is written last through it is what the place holds
abbrev pub lends_place : (R : RattleType) → MutBor (Places R.Denot) → ℕ → MutBor R.Denot → Fml
lends_place R places index r = Lends (the_row R) R places r (with_value places.now index)
