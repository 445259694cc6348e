-- The samples of variables, each list by its place among them.
use Rattle.std.specs.Prelude.{◌≡◌, ◌≤◌, ◌++◌, ◌∷◌, ℕ, List, [], Option, Some, None, length, map}
use Rattle.std.specs.Prelude.{get_or, slice_get}
use Rattle.cycle_window.specs.declared.samples.Samples.{Samples}
use Rattle.vcd_reader.specs.Variables.{Declared, size_of}
use Rattle.cycle_window.specs.Stays.{AreStays}
use Rattle.cycle_window.specs.Values.{numbers, room_in, bits_in}

-- what holds of each, by its place
abbrev pub Each : (ℕ → Samples → Type 0) → List Samples → Type 0
Each P all = (i : ℕ) (s : Samples) → slice_get all i ≡ Some s → P i s

-- what holds of each and what it became, by their place
abbrev pub EachTo : (ℕ → Samples → Samples → Type 0) → List Samples → List Samples → Type 0
EachTo R old new =
    (i : ℕ) (s t : Samples) → slice_get old i ≡ Some s → slice_get new i ≡ Some t → R i s t

-- no values, and room for those at so many ticks
pub record IsBlank (ticks : ℕ) (s : Samples) : Type 0 where
  pub values : numbers s.values ≡ []
  pub room : ticks ≤ room_in s.values
  pub notes : ticks ≤ length s.stays.items

-- the values are gone
pub record IsCleared (old new : Samples) : Type 0 where
  pub values : numbers new.values ≡ []
  pub room : room_in new.values ≡ room_in old.values
  pub notes : new.stays ≡ old.stays
  pub bits : bits_in new.values ≡ bits_in old.values

-- a value more
pub record IsPushed (value : ℕ) (old new : Samples) : Type 0 where
  pub values : numbers new.values ≡ numbers old.values ++ value ∷ []
  pub room : room_in new.values ≡ room_in old.values
  pub notes : new.stays ≡ old.stays
  pub bits : bits_in new.values ≡ bits_in old.values

-- of each value it is noted for how many ticks it stays
pub record IsNoted (old new : Samples) : Type 0 where
  pub values : new.values ≡ old.values
  pub long : length new.stays.items ≡ length old.stays.items
  pub stays : AreStays (numbers new.values) new.stays.items

-- the room for values and notes is the same, and so are the notes
pub record IsRoomKept (old new : Samples) : Type 0 where
  pub room : room_in new.values ≡ room_in old.values
  pub notes : new.stays ≡ old.stays
  pub bits : bits_in new.values ≡ bits_in old.values

-- So many values, each with a note for how many ticks it stays, and room for those at so many
-- ticks.
pub record IsFull (ticks count : ℕ) (s : Samples) : Type 0 where
  pub long : length (numbers s.values) ≡ count
  pub room : ticks ≤ room_in s.values
  pub notes : ticks ≤ length s.stays.items
  pub stays : AreStays (numbers s.values) s.stays.items

-- each value has room for the bits of the variable at its place
abbrev pub AreWide : List Declared → List ℕ → List Samples → Type 0
AreWide vs places all = Each (λ i s. size_of vs (get_or places i 0) ≤ bits_in s.values) all

-- the values at a place of rows, at steps one after the other
abbrev pub column_of : (ℕ → List ℕ) → ℕ → List ℕ → List ℕ
column_of row place steps = map (λ k. get_or (row k) place 0) steps

-- the value of a variable, by its place, at a tick of the window, counted from its first one
abbrev pub value_in : Option Samples → ℕ → ℕ
value_in None n = 0
value_in (Some s) n = get_or (numbers s.values) n 0

-- for how many ticks that value stays, by the notes
abbrev pub stay_in : Option Samples → ℕ → ℕ
stay_in None n = 0
stay_in (Some s) n = get_or s.stays.items n 0

-- the values at a tick at the places
abbrev pub value_at : List Samples → ℕ → ℕ → ℕ
value_at all n place = value_in (slice_get all place) n

abbrev pub stay_at : List Samples → ℕ → ℕ → ℕ
stay_at all n place = stay_in (slice_get all place) n
