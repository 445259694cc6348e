-- What an assertion of a text reads, with names written out: signals, by their paths, and counters,
-- by their places among those of the text. What its counters read it reads, too.
use Rattle.std.specs.Prelude.{◌≡◌, ◌⊎◌, ℕ, ◌+◌, ◌<◌, List, [], ◌∷◌, ◌++◌, length, Option, Some}
use Rattle.std.specs.Prelude.{None, slice_get, All, Contains, AllPairs}
use Rattle.parser_grammar.specs.Trees.{Tree, number, path, concatenation, past, call, unary, chain}
use Rattle.parser_grammar.specs.Trees.{choice}
use Rattle.parser_grammar.specs.Trees.{Links, end, link, Parts, no_part, part, CounterForm}
use Rattle.parser_grammar.specs.Trees.{AssertionForm, ItemForm}
use Rattle.assertions.specs.Written.{Written}
use Rattle.types_names.specs.declared.own.Own.TheVariants.{Counter, Sequence}
use Rattle.types_names.specs.declared.own.Meaning.{Meaning}
use Rattle.types_names.specs.declared.own.Meaning.TheVariants.{Signal, Own as Declared}
use Rattle.types_names.specs.Scopes.{Scope, path_text, meaning}
use Rattle.types_names.specs.Columns.{signals}
use Rattle.types.specs.Texts.{counters_of, label_text}
use Rattle.compiler_laws.specs.WrittenOut.{Leaf, AreWrittenOut, given, all_expressions}

abbrev pub path_counters : Option Meaning → List ℕ
path_counters None = []
path_counters (Some (Signal width)) = []
path_counters (Some (Declared (Counter place width))) = place ∷ []
path_counters (Some (Declared (Sequence place))) = []

-- the counters that an expression names, in the order of the text, each time that it does
unfoldable mutual
  pub counters : Scope → Tree → List ℕ
  counters s (number n t) = []
  counters s (path words x) = path_counters (meaning s words)
  counters s (concatenation t e parts) = counters s e ++ part_counters s parts
  counters s (past t e n) = counters s e
  counters s (call f t e) = counters s e
  counters s (unary op t e) = counters s e
  counters s (chain e links) = counters s e ++ link_counters s links
  counters s (choice c a b) = counters s c ++ (counters s a ++ counters s b)

  pub link_counters : Scope → Links → List ℕ
  link_counters s end = []
  link_counters s (link op e links) = counters s e ++ link_counters s links

  pub part_counters : Scope → Parts → List ℕ
  part_counters s no_part = []
  part_counters s (part e parts) = counters s e ++ part_counters s parts

-- the expressions of a counter's clauses
abbrev pub both_of : Option (Tree × Tree) → List Tree
both_of None = []
both_of (Some pair) = pair.0 ∷ pair.1 ∷ []

abbrev pub clause_expressions : CounterForm → List Tree
clause_expressions c = given c.clear ++ (both_of c.load ++ (both_of c.add ++ both_of c.sub))

-- An expression matters where it is one of an assertion's own, or stands in a clause of a counter
-- that is named in one that matters.
pub data Matters (s : Scope) (items : List ItemForm) (own : List Tree) : Tree → Type 0 where
  of_assertion : {tree : Tree} → Contains own tree → Matters s items own tree
  of_counter : {tree clause : Tree} {place : ℕ} {c : CounterForm} → Matters s items own tree →
      Contains (counters s tree) place → slice_get (counters_of items) place ≡ Some c →
      Contains (clause_expressions c) clause → Matters s items own clause

-- An expression that matters names the signal at the path, or the counter at the place.
pub record ReadsSignal (s : Scope) (items : List ItemForm) (own : List Tree) (p : List ℕ) :
    Type 0 where
  pub tree : Tree
  pub matters : Matters s items own tree
  pub named : Contains (signals s tree) p

pub record ReadsCounter (s : Scope) (items : List ItemForm) (own : List Tree) (place : ℕ) :
    Type 0 where
  pub tree : Tree
  pub matters : Matters s items own tree
  pub named : Contains (counters s tree) place

-- no two of a list are equal
abbrev pub AreDifferent : {X : Type 0} → List X → Type 0
AreDifferent xs = AllPairs (λ x y. x ≡ y → ⊥) xs

-- The assertion reads over 255 signals and counters, each counted once (K3). The list of paths has
-- signals, and that of places has counters.
pub record ReadsMany (s : Scope) (items : List ItemForm) (a : AssertionForm) : Type 0 where
  pub before : Written Leaf
  pub behind : Written Leaf
  pub out : AreWrittenOut s items a before behind
  pub paths : List (List ℕ)
  pub places : List ℕ
  pub paths_read : All (ReadsSignal s items (all_expressions a before behind)) paths
  pub places_read : All (ReadsCounter s items (all_expressions a before behind)) places
  pub paths_differ : AreDifferent paths
  pub places_differ : AreDifferent places
  pub many : 255 < length paths + length places

-- a text of over 65,535 bytes
abbrev pub IsLongText : List ℕ → Type 0
IsLongText text = 65535 < length text

-- The assertion reads a signal whose path is long.
pub record ReadsLongPath (s : Scope) (items : List ItemForm) (a : AssertionForm) : Type 0 where
  pub before : Written Leaf
  pub behind : Written Leaf
  pub out : AreWrittenOut s items a before behind
  pub path : List ℕ
  pub read : ReadsSignal s items (all_expressions a before behind) path
  pub long : IsLongText path

-- Its name is long, where so many assertions stand before it, or its clock's path, or the path of a
-- signal that it reads (K4).
abbrev pub HasLongName : Scope → List ItemForm → ℕ → AssertionForm → Type 0
HasLongName s items before a =
    IsLongText (label_text before a.label)
    ⊎ (IsLongText (path_text a.clock) ⊎ ReadsLongPath s items a)
