-- The first declaration that reaches itself, by the bytes of the declarations.
use Rattle.std.specs.Prelude.{◌≡◌, ℕ, ◌<◌, ◌≤◌, List, length, map, slice_index_or, Option, Some}
use Rattle.std.specs.Prelude.{None, false}
use Rattle.parser_grammar.specs.Trees.{ItemForm}
use Rattle.assertions.specs.declared.sequence.Boolean.{Boolean}
use Rattle.types.specs.Drafts.{Draft, IsCyclic}
use Rattle.types.specs.Outlines.{map_draft}
use Rattle.types.specs.declared.entry.Entry.{Entry}
use Rattle.types.specs.Entries.{has_entry}
use Rattle.types_names.specs.Scopes.{Scope}
use Rattle.types.specs.Readings.{dot}
use Rattle.types.specs.Texts.{declarations_of}
use Rattle.types.specs.Readings.{outlines_of}

-- One of the first so many declarations reaches itself and has the byte, and none of these that
-- does has a lower one.
pub record IsLowest {B : Type 0} (bodies : List (Draft B)) (bytes : List ℕ)
    (below at : ℕ) : Type 0 where
  pub place : ℕ
  pub inside : place < below
  pub cyclic : IsCyclic bodies place
  pub byte : at ≡ slice_index_or bytes place 0
  pub lowest : (p : ℕ) → p < below → IsCyclic bodies p → at ≤ slice_index_or bytes p 0

-- the lowest of the first so many, if one of them reaches itself
abbrev pub IsFirstCycle : {B : Type 0} → List (Draft B) → List ℕ → ℕ → Option ℕ → Type 0
IsFirstCycle bodies bytes below None = (p : ℕ) → p < below → IsCyclic bodies p → ⊥
IsFirstCycle bodies bytes below (Some at) = IsLowest bodies bytes below at

-- one was found, at most at the byte
abbrev pub IsAtMost : Option ℕ → ℕ → Type 0
IsAtMost None byte = ⊥
IsAtMost (Some at) byte = at ≤ byte

-- Drafts of the named sequences, with the bytes where they are declared.
pub record AreOutlined (s : Scope) (items : List ItemForm) (bodies : List (Draft Boolean))
    (bytes : List ℕ) : Type 0 where
  pub outlines : map (map_draft (λ b. dot)) bodies ≡ outlines_of s items
  pub declared : bytes ≡ map (λ d. d.name.at) (declarations_of items)

-- a place without an entry
pub record LacksAt (table : List (Option Entry)) : Type 0 where
  pub place : ℕ
  pub inside : place < length table
  pub lacking : has_entry table place ≡ false
