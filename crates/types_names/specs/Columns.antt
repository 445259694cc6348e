-- The signals that a text reads, as columns.
use Rattle.std.specs.Prelude.{ℕ, List, [], ◌∷◌, ◌++◌, Option, Some, None, Bool, true, if◌then◌else◌}
use Rattle.std.specs.Prelude.{◌&&◌, bytes_eq, position, IsTrue}
use Rattle.std.specs.List.{flat_map, list_any}
use Rattle.parser_grammar.specs.Trees.{Tree, number, path, concatenation, past, call, unary, chain}
use Rattle.parser_grammar.specs.Trees.{choice}
use Rattle.parser_grammar.specs.Trees.{Links, end, link, Parts, no_part, part, SequenceForm}
use Rattle.parser_grammar.specs.Trees.{boolean}
use Rattle.parser_grammar.specs.Trees.{repeated, late, delayed, throughout, joined, Steps, no_step}
use Rattle.parser_grammar.specs.Trees.{step, Others, no_other, other, PropertyForm, plain}
use Rattle.parser_grammar.specs.Trees.{implication}
use Rattle.parser_grammar.specs.Trees.{CounterForm, AssertionForm, ItemForm, counter, declaration}
use Rattle.parser_grammar.specs.Trees.{assertion}
use Rattle.types_names.specs.declared.own.Meaning.{Meaning}
use Rattle.types_names.specs.declared.own.Meaning.TheVariants.{Signal, Own as Declared}
use Rattle.types_names.specs.Scopes.{Scope, path_text, meaning}

abbrev pub path_signals : List ℕ → Option Meaning → List (List ℕ)
path_signals text None = []
path_signals text (Some (Signal width)) = text ∷ []
path_signals text (Some (Declared o)) = []

-- the paths that an expression reads as signals, in the order of the text, each time that it does
unfoldable mutual
  pub signals : Scope → Tree → List (List ℕ)
  signals s (number n t) = []
  signals s (path words x) = path_signals (path_text words) (meaning s words)
  signals s (concatenation t e parts) = signals s e ++ part_signals s parts
  signals s (past t e n) = signals s e
  signals s (call f t e) = signals s e
  signals s (unary op t e) = signals s e
  signals s (chain e links) = signals s e ++ link_signals s links
  signals s (choice c a b) = signals s c ++ (signals s a ++ signals s b)

  pub link_signals : Scope → Links → List (List ℕ)
  link_signals s end = []
  link_signals s (link op e links) = signals s e ++ link_signals s links

  pub part_signals : Scope → Parts → List (List ℕ)
  part_signals s no_part = []
  part_signals s (part e parts) = signals s e ++ part_signals s parts

unfoldable mutual
  pub sequence_signals : Scope → SequenceForm → List (List ℕ)
  sequence_signals s (boolean e) = signals s e
  sequence_signals s (repeated q n) = sequence_signals s q
  sequence_signals s (late t n q) = sequence_signals s q
  sequence_signals s (delayed q steps) = sequence_signals s q ++ step_signals s steps
  sequence_signals s (throughout e q) = signals s e ++ sequence_signals s q
  sequence_signals s (joined j q others) = sequence_signals s q ++ other_signals s others

  pub step_signals : Scope → Steps → List (List ℕ)
  step_signals s no_step = []
  step_signals s (step n q steps) = sequence_signals s q ++ step_signals s steps

  pub other_signals : Scope → Others → List (List ℕ)
  other_signals s no_other = []
  other_signals s (other q others) = sequence_signals s q ++ other_signals s others

abbrev pub property_signals : Scope → PropertyForm → List (List ℕ)
property_signals s (plain q) = sequence_signals s q
property_signals s (implication word a t c) = sequence_signals s a ++ sequence_signals s c

abbrev pub optional_signals : Scope → Option Tree → List (List ℕ)
optional_signals s None = []
optional_signals s (Some e) = signals s e

abbrev pub clause_signals : Scope → Option (Tree × Tree) → List (List ℕ)
clause_signals s None = []
clause_signals s (Some p) = signals s p.0 ++ signals s p.1

abbrev pub counter_signals : Scope → CounterForm → List (List ℕ)
counter_signals s c =
    optional_signals s c.clear ++ (clause_signals s c.load
    ++ (clause_signals s c.add ++ clause_signals s c.sub))

abbrev pub assertion_signals : Scope → AssertionForm → List (List ℕ)
assertion_signals s a = optional_signals s a.disable ++ property_signals s a.property

-- all of an item but a clock's path
abbrev pub item_signals : Scope → ItemForm → List (List ℕ)
item_signals s (counter c) = counter_signals s c
item_signals s (declaration d) = sequence_signals s d.body
item_signals s (assertion a) = assertion_signals s a

abbrev pub file_signals : Scope → List ItemForm → List (List ℕ)
file_signals s items = flat_map (item_signals s) items

-- whether a path is listed
abbrev pub is_listed : List (List ℕ) → List ℕ → Bool
is_listed known p = list_any (bytes_eq p) known

-- a path after those that are listed already, unless it is
abbrev pub with_path : List (List ℕ) → List ℕ → List (List ℕ)
with_path known p = if is_listed known p then known else known ++ p ∷ []

-- paths after those that are listed already, each once
abbrev pub with_paths : List (List ℕ) → List (List ℕ) → List (List ℕ)
with_paths known [] = known
with_paths known (p ∷ ps) = with_paths (with_path known p) ps

abbrev pub columns_with : Scope → List (List ℕ) → Tree → List (List ℕ)
columns_with s known t = with_paths known (signals s t)

abbrev pub sequence_listed : Scope → List (List ℕ) → SequenceForm → List (List ℕ)
sequence_listed s known q = with_paths known (sequence_signals s q)

abbrev pub item_listed : Scope → List (List ℕ) → ItemForm → List (List ℕ)
item_listed s known i = with_paths known (item_signals s i)

-- the signals that a text reads, each once, in the order of the text
abbrev pub columns_of : Scope → List ItemForm → List (List ℕ)
columns_of s items = with_paths [] (file_signals s items)

-- the place of a path
abbrev pub column_of : List (List ℕ) → List ℕ → Option ℕ
column_of columns p = position (bytes_eq p) columns

-- whether all paths are listed
abbrev pub all_listed : List (List ℕ) → List (List ℕ) → Bool
all_listed known [] = true
all_listed known (p ∷ ps) = is_listed known p && all_listed known ps

-- Each path that an expression reads as a signal is a column.
abbrev pub HasColumns : Scope → List (List ℕ) → Tree → Type 0
HasColumns s columns t = IsTrue (all_listed columns (signals s t))
