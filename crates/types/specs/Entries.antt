-- What is known of a sequence with its names written out.
use Rattle.std.specs.Prelude.{◌≡◌, ◌⊎◌, ℕ, ◌≤◌, min, List, Bool, true, false, Option, Some, None}
use Rattle.std.specs.Prelude.{Box, slice_get, ◌↔◌}
use Rattle.std.specs.declared.alloc.Global.{Global}
use Rattle.assertions.specs.declared.sequence.Boolean.{Boolean}
use Rattle.assertions.specs.declared.sequence.Boolean.TheVariants.{One}
use Rattle.assertions.specs.declared.sequence.Sequence.{Sequence}
use Rattle.assertions.specs.Segments.{Seq, Matches}
use Rattle.assertions.specs.Written.{Written, kernel, weight, IsOrdered}
use Rattle.assertions.specs.Emptiness.{admits_empty}
use Rattle.assertions.specs.Shapes.{written_form}
use Rattle.assertions.specs.Listed.{EachBoolean, IsUsed}
use Rattle.types.specs.declared.facts.Facts.{Facts}
use Rattle.types.specs.declared.entry.Entry.{Entry}
use Rattle.types.specs.Drafts.{Draft, IsNumberIn, named_within, IsWrittenOut, uses_at}
use Rattle.types.specs.Trimmed.{IsTrimmed}

-- the bodies of the named sequences, in the order of their declarations
abbrev pub Bodies : Type 0
Bodies = List (Draft Boolean)

-- Two sequences match the same segments, where h and g say which of their booleans are true.
abbrev pub Alike : {B C : Type 0} → (B → ℕ → Bool) → (C → ℕ → Bool) → Seq B → Seq C → Type 0
Alike h g r s = (i j : ℕ) → Matches h r i j ↔ Matches g s i j

-- the weight, up to 128, and what its form tells of empty matches
pub record IsFacts (w : Written Boolean) (f : Facts) : Type 0 where
  pub weighs : f.weight ≡ min (weight w) 128
  pub empty : f.empty ≡ admits_empty w

-- It is one of the sequence's booleans, or the constant 1.
abbrev pub IsUsedOrOne : Written Boolean → Boolean → Type 0
IsUsedOrOne w b = IsUsed b w ⊎ (b ≡ One)

-- What is written second says the same as the first, by its booleans, and weighs no more: it is the
-- first, in which parts that weigh nothing may be replaced.
pub record SaysSame (w u : Written Boolean) : Type 0 where
  pub ordered : IsOrdered u
  pub light : weight u ≤ weight w
  pub known : EachBoolean (IsUsedOrOne w) u
  pub alike : (holds : Boolean → ℕ → Bool) → Alike holds holds (kernel One w) (kernel One u)
  pub trimmed : IsTrimmed One w u

-- There is a sequence, and it says the same.
abbrev pub HasSame : Written Boolean → Option (Box Sequence Global) → Type 0
HasSame w None = ⊥
HasSame w (Some s) = SaysSame w (written_form s.value)

-- The entry is that of what is written.
pub record IsTheEntryOf (w : Written Boolean) (e : Entry) : Type 0 where
  pub ordered : IsOrdered w
  pub facts : IsFacts w e.facts
  pub same : weight w ≤ 127 → HasSame w e.sequence

-- The name of the declaration at p stands for something, of which this is the entry.
pub record IsEntryOf (bodies : Bodies) (p : ℕ) (e : Entry) : Type 0 where
  pub meant : Written Boolean
  pub depth : ℕ
  pub named : named_within bodies depth p ≡ Some meant
  pub entry : IsTheEntryOf meant e

-- It stands for something, with the names written out, of which this is the entry.
pub record HasEntry (bodies : Bodies) (d : Draft Boolean) (e : Entry) : Type 0 where
  pub meant : Written Boolean
  pub spells : IsWrittenOut bodies d meant
  pub entry : IsTheEntryOf meant e

-- Each entry of a table is that of the declaration at its place.
abbrev pub IsEntryTable : Bodies → List (Option Entry) → Type 0
IsEntryTable bodies table =
    (p : ℕ) (e : Entry) → slice_get table p ≡ Some (Some e) → IsEntryOf bodies p e

-- whether there is an entry
abbrev pub is_entry : Option (Option Entry) → Bool
is_entry None = false
is_entry (Some None) = false
is_entry (Some (Some e)) = true

abbrev pub has_entry : List (Option Entry) → ℕ → Bool
has_entry table p = is_entry (slice_get table p)

-- one of the names has no entry
pub record LacksOne (table : List (Option Entry)) (names : List ℕ) : Type 0 where
  pub place : ℕ
  pub used : IsNumberIn place names
  pub lacking : has_entry table place ≡ false

-- each of these has an entry or is left
abbrev pub Accounts : List (Option Entry) → List ℕ → ℕ → Type 0
Accounts table left p = (has_entry table p ≡ true) ⊎ IsNumberIn p left

-- each of these lacks an entry of a name that it uses
abbrev pub AllLack : Bodies → List (Option Entry) → List ℕ → Type 0
AllLack bodies table left = (p : ℕ) → IsNumberIn p left → LacksOne table (uses_at bodies p)
