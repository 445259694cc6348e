-- Why an assertion of a text has no program, by what the text says; and which always have one.
use Rattle.std.specs.Prelude.{ℕ, ◌<◌, ◌≤◌, List, length, sum_by, Option, Some}
use Rattle.std.specs.List.{AllByRecursion, AllZip}
use Rattle.parser_grammar.specs.Trees.{Tree, number, path, concatenation, past, call, unary, chain}
use Rattle.parser_grammar.specs.Trees.{choice}
use Rattle.parser_grammar.specs.Trees.{Links, end, link, Parts, no_part, part, AssertionForm}
use Rattle.parser_grammar.specs.Trees.{ItemForm}
use Rattle.assertions.specs.declared.assertion.Assertion.{Assertion}
use Rattle.assertions.specs.declared.suite.Suite.{Suite}
use Rattle.assertions.specs.Written.{Written}
use Rattle.types_names.specs.declared.own.Own.TheVariants.{Counter}
use Rattle.types_names.specs.declared.own.Meaning.{Meaning}
use Rattle.types_names.specs.declared.own.Meaning.TheVariants.{Own as Declared}
use Rattle.types_names.specs.Scopes.{Scope, meaning}
use Rattle.types_names.specs.Asked.{scope_for}
use Rattle.types.specs.Texts.{assertions_of}
use Rattle.compiler.specs.Small.{IsSmallSide, IsSmall}
use Rattle.compiler_laws.specs.WrittenOut.{Leaf, AreWrittenOut, all_expressions, tree_size}
use Rattle.compiler_laws.specs.SuiteLaws.{SaysOver}

-- The assertion has over 127 booleans as it is written, with names written out, the disabling
-- expression among them (K1).
pub record HasManyBooleans (s : Scope) (items : List ItemForm) (a : AssertionForm) : Type 0 where
  pub before : Written Leaf
  pub behind : Written Leaf
  pub out : AreWrittenOut s items a before behind
  pub many : 127 < length (all_expressions a before behind)

abbrev pub IsNoCounter : Option Meaning → Type 0
IsNoCounter (Some (Declared (Counter place width))) = ⊥
IsNoCounter means = Unit {0}

-- An expression without a call whose name begins with $, and without a counter.
unfoldable mutual
  pub IsStill : Scope → Tree → Type 0
  IsStill s (number n t) = Unit {0}
  IsStill s (path words x) = IsNoCounter (meaning s words)
  IsStill s (concatenation t e parts) = IsStill s e × AreStillParts s parts
  IsStill s (past t e n) = ⊥
  IsStill s (call f t e) = ⊥
  IsStill s (unary op t e) = IsStill s e
  IsStill s (chain e links) = IsStill s e × AreStillLinks s links
  IsStill s (choice c a b) = IsStill s c × IsStill s a × IsStill s b

  pub AreStillLinks : Scope → Links → Type 0
  AreStillLinks s end = Unit {0}
  AreStillLinks s (link op e links) = IsStill s e × AreStillLinks s links

  pub AreStillParts : Scope → Parts → Type 0
  AreStillParts s no_part = Unit {0}
  AreStillParts s (part e parts) = IsStill s e × AreStillParts s parts

-- A small assertion of a text, with names written out: its sides are small (no `and`, no
-- `intersect`, no delay between two parts that may be 0, a weight of at most 60, and one more for
-- |=>), and at most 32 booleans are written, the disabling expression among them, with at most 256
-- operators and operands, no call and no counter.
pub record IsSmallText (s : Scope) (items : List ItemForm) (a : AssertionForm) : Type 0 where
  pub before : Written Leaf
  pub behind : Written Leaf
  pub out : AreWrittenOut s items a before behind
  pub antecedent : IsSmallSide before
  pub consequent : IsSmallSide behind
  pub few : length (all_expressions a before behind) ≤ 32
  pub short : sum_by tree_size (all_expressions a before behind) ≤ 256
  pub still : AllByRecursion (IsStill s) (all_expressions a before behind)

-- What a suite has for an assertion of the text has no more booleans than are written, and is small
-- where the text's is.
pub record KeepsTo (s : Scope) (items : List ItemForm) (suite : Suite) (a : AssertionForm)
    (made : Assertion) : Type 0 where
  pub few : 127 < length made.booleans.items → HasManyBooleans s items a
  pub small : IsSmallText s items a → IsSmall suite made

-- So has each, of the suite that a text says.
abbrev pub SuitesKeepTo : Type 0
SuitesKeepTo =
    (widths : List ℕ → Option ℕ) (text : List ℕ) (suite : Suite) (x : SaysOver widths text suite) →
    AllZip (KeepsTo (scope_for x.items widths) x.items suite) (assertions_of x.items)
    suite.assertions.items
