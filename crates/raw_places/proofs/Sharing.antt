-- A `&` to the places is made of what they own. Assumes `Logic`.
use Rattle.std.specs.Prelude.{ℕ, ◌+◌, List, [], ◌∷◌, Option, Some, None}
use Rattle.std.specs.Mem.{type_size}
use seplogic.Ra.Ura.{Ura}
use base.Fml.{Lft, Incl, ftrue, ffalse}
use types.Logic.{Logic}
use denote.RattleType.{RattleType, RowLaws}
use denote.Param.Laws.{Laws}
use denote.RawPtr.{Ptr, block_ptr, null_ptr}
use denote.Sharing.{ShrLaws, said}
use denote.SharingLaws.{beside_shr_laws, nothing_shr_laws, said_shr_laws}
use denote.Shares.{Shares-less}
use denote.Struct.Lending.{Lends, Lends-both, Lends-nothing, Lends-said, Lends-false}
use Rattle.raw_places.specs.Ownership.{place_owned, row_owned, places_owned, fits}
use Rattle.raw_places.specs.Ownership.{place_lent, row_lent, places_lent}

module _ (R : RattleType) (L : RowLaws R) where
  place_laws : (block offset : ℕ) (place : Option R.Denot)
      → ShrLaws (place_lent R block offset place)
  place_laws block offset (Some value) = L value block offset
  place_laws block offset None = nothing_shr_laws

  row_laws : (block offset : ℕ) (places : List (Option R.Denot))
      → ShrLaws (row_lent R block offset places)
  row_laws block offset [] = nothing_shr_laws
  row_laws block offset (place ∷ places) =
      beside_shr_laws _ _ (place_laws block offset place)
      (row_laws block (offset + type_size R) places)

  pub places_laws : (start : Ptr) (places : List (Option R.Denot))
      → ShrLaws (places_lent R start places)
  places_laws (block_ptr block offset) places =
      beside_shr_laws _ _ (said_shr_laws (fits R places) tt) (row_laws block offset places)
  places_laws null_ptr places = said_shr_laws ffalse tt

module _ {M : Type 1} {𝓤 : Ura M} (𝓛 : Logic 𝓤) (life : Lft) (R : RattleType) (L : Laws R)
    (lives : Incl life R.lives) where
  Lends-place : (block offset : ℕ) (place : Option R.Denot)
      → Lends 𝓛 (place_owned R block offset place) (place_lent R block offset place) life
  Lends-place block offset (Some value) = λ κ ts.
      Shares-less 𝓛 R R.lives life lives (L.shares 𝓛) value κ ts block offset
  Lends-place block offset None = Lends-nothing 𝓛 (place_owned R block offset None) life

  Lends-row : (block offset : ℕ) (places : List (Option R.Denot))
      → Lends 𝓛 (row_owned R block offset places) (row_lent R block offset places) life
  Lends-row block offset [] = Lends-nothing 𝓛 ftrue life
  Lends-row block offset (place ∷ places) =
      let next = offset + type_size R in
      Lends-both 𝓛 (place_owned R block offset place) (row_owned R block next places)
      (place_lent R block offset place) (row_lent R block next places) life
      (Lends-place block offset place) (Lends-row block next places)

  pub Lends-places : (start : Ptr) (places : List (Option R.Denot))
      → Lends 𝓛 (places_owned R start places) (places_lent R start places) life
  Lends-places (block_ptr block offset) places =
      Lends-both 𝓛 (fits R places) (row_owned R block offset places)
      (said (fits R places)) (row_lent R block offset places) life
      (Lends-said 𝓛 (fits R places) tt life) (Lends-row block offset places)
  Lends-places null_ptr places = Lends-false 𝓛 (said ffalse) life
