-- What the places of a block own and lend, for values of the row R.
use Rattle.std.specs.Prelude.{◌≡◌, ℕ, ◌+◌, ◌*◌, ◌^◌, List, [], ◌∷◌, length, get_or, Option}
use Rattle.std.specs.Prelude.{Some, None}
use Rattle.std.specs.Mem.{type_size}
use base.Fraction.{full_share}
use base.Fml.{Lft, Fml, ftrue, ffalse, fsep, flt, froom}
use mir.Syntax.{Ty, ty_array}
use mir.Raw.{raw}
use denote.RattleType.{RattleType}
use denote.Memory.{lone, part_at, shared_of}
use denote.Sharing.{nothing, said, beside}
use denote.RawPtr.{Ptr, block_ptr, null_ptr}

-- the place holds a value
abbrev pub IsHeld : {X : Type 0} → List (Option X) → ℕ → Type 0
IsHeld {X} held index = (value : X) × (get_or held index None ≡ Some value)

module _ (R : RattleType) where
  -- one place, so many bytes into a block
  abbrev pub place_owned : ℕ → ℕ → Option R.Denot → Fml
  place_owned block offset (Some value) = part_at R full_share value block offset
  place_owned block offset None = froom (raw (lone R.mir)) block offset

  -- places side by side, from so many bytes on
  abbrev pub row_owned : ℕ → ℕ → List (Option R.Denot) → Fml
  row_owned block offset [] = ftrue
  row_owned block offset (place ∷ places) =
      fsep (place_owned block offset place) (row_owned block (offset + type_size R) places)

  -- a block may be as large
  abbrev pub fits : List (Option R.Denot) → Fml
  fits places = flt (length places * type_size R) (2 ^ 63)

  abbrev pub places_owned : Ptr → List (Option R.Denot) → Fml
  places_owned (block_ptr block offset) places = fsep (fits places) (row_owned block offset places)
  places_owned null_ptr places = ffalse

  -- what a `&` to the places has of one place, and of all
  abbrev pub place_lent : ℕ → ℕ → Option R.Denot → Lft → Fml
  place_lent block offset (Some value) = shared_of R value block offset
  place_lent block offset None = nothing

  abbrev pub row_lent : ℕ → ℕ → List (Option R.Denot) → Lft → Fml
  row_lent block offset [] = nothing
  row_lent block offset (place ∷ places) =
      beside (place_lent block offset place) (row_lent block (offset + type_size R) places)

  abbrev pub places_lent : Ptr → List (Option R.Denot) → Lft → Fml
  places_lent (block_ptr block offset) places =
      beside (said (fits places)) (row_lent block offset places)
  places_lent null_ptr places = said ffalse

  -- the allocator's token for a block of so many places
  abbrev pub right_owned : (Ty → Ptr → Fml) → Ptr → ℕ → Fml
  right_owned token start count = token (raw (ty_array (lone R.mir) count)) start
