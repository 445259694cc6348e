-- Assertions that are made of what is resolved.
use Rattle.std.specs.Prelude.{◌≡◌, ◌⊎◌, ℕ, ◌≤◌, List, length, Option, Some, None, Box}
use Rattle.std.specs.declared.alloc.Global.{Global}
use Rattle.std.specs.List.{AllByRecursion}
use Rattle.parser_grammar.specs.Trees as trees
use Rattle.expressions.specs.declared.expr.Expr.{Expr}
use Rattle.assertions.specs.declared.sequence.Boolean.{Boolean}
use Rattle.assertions.specs.declared.sequence.Boolean.TheVariants.{One, Listed}
use Rattle.assertions.specs.declared.sequence.Sequence.{Sequence}
use Rattle.assertions.specs.Written.{Written, boolean}
use Rattle.assertions.specs.Shapes.{written_form}
use Rattle.assertions.specs.Listed.{IsListedOption}
use Rattle.types.specs.declared.entry.Entry.{Entry}
use Rattle.types.specs.Drafts.{Draft, IsNumberIn}
use Rattle.types.specs.Entries.{IsTheEntryOf}
use Rattle.types.specs.Placed.{MatchesByPlaces, IsPlacedBoolean, AllListed}
use Rattle.types.specs.Leaves.{form_of}
use Rattle.types.specs.Trimmed.{IsTrimmed}
use Rattle.types.specs.declared.resolved.Resolved.{Resolved}
use Rattle.types.specs.Options.{OptionZip}

-- the expressions of a suite, what a side says, with names and without, assertions of a text
abbrev pub Expressions : Type 0
Expressions = List Expr

abbrev pub SideDraft : Type 0
SideDraft = Draft Boolean

abbrev pub Side : Type 0
Side = Written Boolean

abbrev pub Statement : Type 0
Statement = trees.AssertionForm

abbrev pub Statements : Type 0
Statements = List trees.AssertionForm

-- It is the entry of something, which weighs at most 127.
pub record IsFitting (e : Entry) : Type 0 where
  pub meant : Written Boolean
  pub entry : IsTheEntryOf meant e
  pub light : e.facts.weight ≤ 127

-- Both sides fit.
pub record SidesFit (m : Resolved) : Type 0 where
  pub antecedent : IsFitting m.antecedent
  pub consequent : IsFitting m.consequent

abbrev pub AreFitting : List Resolved → Type 0
AreFitting = AllByRecursion SidesFit

-- what is kept of a sequence in its entry, if anything is
abbrev pub kept_by : Option (Box Sequence Global) → Written Boolean
kept_by None = boolean One
kept_by (Some s) = written_form s.value

abbrev pub kept_of : Entry → Written Boolean
kept_of e = kept_by e.sequence

-- A side matches by an assertion's list of places what is meant by the places among the suite's. It
-- is what is kept of that, with other places.
pub record IsSide (booleans : List Expr) (places : List ℕ) (meant kept made : Written Boolean) :
    Type 0 where
  pub placed : MatchesByPlaces booleans places meant made
  pub listed : AllListed places made
  pub trimmed : IsTrimmed One meant kept
  pub form : form_of made ≡ form_of kept

-- Each place after was there before, or it is that of the disabling expression.
abbrev pub AreAt : Option ℕ → List ℕ → List ℕ → Type 0
AreAt place before after = (p : ℕ) → IsNumberIn p after → IsNumberIn p before ⊎ (place ≡ Some p)

-- a boolean in an assertion's list, for one at a place of the suite's, if there is one
abbrev pub IsPlacedAt : List Expr → List ℕ → Option ℕ → Option Boolean → Type 0
IsPlacedAt booleans places =
    OptionZip (λ p b. IsPlacedBoolean booleans places (Listed p) b
    × IsListedOption (length places) (Some b))
