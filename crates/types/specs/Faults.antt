-- Where faults of types stand in a text.
use Rattle.std.specs.Prelude.{◌≡◌, ◌⊎◌, ℕ, ◌<◌, ◌≤◌, Bool, false, List, [], ◌∷◌, ◌++◌, Some}
use Rattle.std.specs.Prelude.{slice_get}
use Rattle.parser_grammar.specs.Trees.{PropertyForm, plain, implication, DeclarationForm}
use Rattle.parser_grammar.specs.Trees.{AssertionForm}
use Rattle.parser_grammar.specs.Trees.{ItemForm}
use Rattle.assertions.specs.Segments.{AdmitsEmpty}
use Rattle.assertions.specs.Attempts.{IsDegenerateBy}
use Rattle.assertions.specs.Written.{Written, kernel, weight}
use Rattle.types.specs.Drafts.{Draft, IsNumberIn, IsWrittenOut, IsCyclic}
use Rattle.types.specs.Implications.{rewritten_antecedent}
use Rattle.types_names.specs.declared.own.Sought.TheVariants.{Unknown, Wide, OutOfRange}
use Rattle.types_names.specs.Scopes.{Scope}
use Rattle.types_names.specs.Faults.{file_faults}
use Rattle.parser_grammar.specs.declared.operator.Implication.{Implication}
use Rattle.types.specs.declared.fault.TypeFault.{TypeFault}
use Rattle.types.specs.declared.fault.TypeFault.TheVariants.{UnknownName, Duplicate}
use Rattle.types.specs.declared.fault.TypeFault.TheVariants.{WiderThan128, SliceRange}
use Rattle.types.specs.declared.fault.TypeFault.TheVariants.{Degenerate, OtherClock}
use Rattle.types.specs.declared.fault.TypeFault.TheVariants.{AdmitsEmpty as Empty}
use Rattle.types.specs.declared.fault.TypeFault.TheVariants.{CyclicSequence}
use Rattle.types.specs.declared.fault.TypeFault.TheVariants.{TooWide, Memory}
use Rattle.types.specs.Readings.{Dot, dot, outline, outlines_of}
use Rattle.types.specs.Texts.{declarations_of, assertions_of, duplicates, other_clocks}
use Rattle.types.specs.Texts.{sequence_byte, led_byte, is_led}

-- a text, item by item
abbrev pub Text : Type 0
Text = List ItemForm

-- A side of an assertion: its outline, with the antecedent of |=> as that of |->, whether
-- "first_match" stands round it, and the byte of its first token but brackets.
pub record Side : Type 0 where
  pub outline : Draft Dot
  pub first : Bool
  pub byte : ℕ

-- R |=> S is (R ##1 1) |-> S (16.12.7)
abbrev pub outline_before : Implication → Draft Dot → Draft Dot
outline_before k d = rewritten_antecedent dot k d

-- the antecedent that is written, if there is one
abbrev pub antecedents_in : Scope → PropertyForm → List Side
antecedents_in s (plain q) = []
antecedents_in s (implication word a i c) =
    record {
      outline = outline_before i (outline s a);
      first = is_led word;
      byte = led_byte word a;
    } ∷ []

-- A plain sequence is a consequent alone.
abbrev pub consequent_in : Scope → PropertyForm → Side
consequent_in s (plain q) =
    record { outline = outline s q; first = false; byte = sequence_byte q }
consequent_in s (implication word a i c) =
    record { outline = outline s c; first = false; byte = sequence_byte c }

abbrev pub sides_of : Scope → List AssertionForm → List Side
sides_of s [] = []
sides_of s (a ∷ more) =
    (antecedents_in s a.property ++ consequent_in s a.property ∷ []) ++ sides_of s more

abbrev pub consequents_of : Scope → List AssertionForm → List Side
consequents_of s [] = []
consequents_of s (a ∷ more) = consequent_in s a.property ∷ consequents_of s more

-- one of the sides
abbrev pub IsSide : Side → List Side → Type 0
IsSide x [] = ⊥
IsSide x (y ∷ ys) = (x ≡ y) ⊎ IsSide x ys

-- A named sequence that reaches itself is declared at the byte.
pub record CycleAt (s : Scope) (items : List ItemForm) (at : ℕ) : Type 0 where
  pub place : ℕ
  pub declared : DeclarationForm
  pub found : slice_get (declarations_of items) place ≡ Some declared
  pub cyclic : IsCyclic (outlines_of s items) place
  pub byte : at ≡ declared.name.at

-- One of the sides stands at the byte, and is so, with its names written out.
pub record SideAt (bodies : List (Draft Dot)) (sides : List Side)
    (IsSo : Bool → Written Dot → Type 0) (at : ℕ) : Type 0 where
  pub side : Side
  pub one : IsSide side sides
  pub meant : Written Dot
  pub spells : IsWrittenOut bodies side.outline meant
  pub so : IsSo side.first meant
  pub byte : at ≡ side.byte

-- A side weighs more than 127 (Y9), has no match of a tick or more, none that is a first one where
-- that is asked (Y5), a consequent has an empty match (Y6), were every boolean true (16.12.22).
abbrev pub WideAt : Scope → List ItemForm → ℕ → Type 0
WideAt s items =
    SideAt (outlines_of s items) (sides_of s (assertions_of items)) (λ first w. 127 < weight w)

abbrev pub DegenerateAt : Scope → List ItemForm → ℕ → Type 0
DegenerateAt s items =
    SideAt (outlines_of s items) (sides_of s (assertions_of items))
    (λ first w. IsDegenerateBy first (kernel dot w))

abbrev pub EmptyAt : Scope → List ItemForm → ℕ → Type 0
EmptyAt s items =
    SideAt (outlines_of s items) (consequents_of s (assertions_of items))
    (λ first w. AdmitsEmpty (kernel dot w))

-- The fault stands in the text; of several the first by kind, in the order Y1, Y2, Y3, Y4, Y7, Y8,
-- Y9, Y5, Y6, then the lowest byte.
abbrev pub FaultStands : Scope → List ItemForm → TypeFault → Type 0
FaultStands s items (UnknownName at) = IsNumberIn at (file_faults s Unknown items)
FaultStands s items (Duplicate at) = IsNumberIn at (duplicates items)
FaultStands s items (WiderThan128 at) = IsNumberIn at (file_faults s Wide items)
FaultStands s items (SliceRange at) = IsNumberIn at (file_faults s OutOfRange items)
FaultStands s items (OtherClock at) = IsNumberIn at (other_clocks (assertions_of items))
FaultStands s items (CyclicSequence at) = CycleAt s items at
FaultStands s items (TooWide at) = WideAt s items at
FaultStands s items (Degenerate at) = DegenerateAt s items at
FaultStands s items (Empty at) = EmptyAt s items at
FaultStands s items Memory = ⊥

abbrev pub rank : TypeFault → ℕ
rank (UnknownName at) = 1
rank (Duplicate at) = 2
rank (WiderThan128 at) = 3
rank (SliceRange at) = 4
rank (OtherClock at) = 5
rank (CyclicSequence at) = 6
rank (TooWide at) = 7
rank (Degenerate at) = 8
rank (Empty at) = 9
rank Memory = 0

abbrev pub byte_of : TypeFault → ℕ
byte_of (UnknownName at) = at
byte_of (Duplicate at) = at
byte_of (WiderThan128 at) = at
byte_of (SliceRange at) = at
byte_of (OtherClock at) = at
byte_of (CyclicSequence at) = at
byte_of (TooWide at) = at
byte_of (Degenerate at) = at
byte_of (Empty at) = at
byte_of Memory = 0

-- No fault of the first so many kinds stands.
abbrev pub ClearTo : Scope → List ItemForm → ℕ → Type 0
ClearTo s items n = (fault : TypeFault) → FaultStands s items fault → n < rank fault

-- No fault stands.
abbrev pub IsFaultless : Scope → List ItemForm → Type 0
IsFaultless s items = (fault : TypeFault) → FaultStands s items fault → ⊥

-- The fault stands, and none of an earlier kind, nor of its own at a lower byte.
pub record IsFirst (s : Scope) (items : List ItemForm) (fault : TypeFault) : Type 0 where
  pub stands : FaultStands s items fault
  pub first : (other : TypeFault) → FaultStands s items other
      → (rank fault < rank other) ⊎ ((rank fault ≡ rank other) × (byte_of fault ≤ byte_of other))

-- The text is refused for its first fault; want of memory says nothing of it.
abbrev pub IsTypeFault : Scope → List ItemForm → TypeFault → Type 0
IsTypeFault s items Memory = Unit {0}
IsTypeFault s items fault = IsFirst s items fault
