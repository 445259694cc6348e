-- How deep the expressions of a text are.
use Rattle.std.specs.Prelude.{ℕ, ◌≤◌, List}
use Rattle.lexer.specs.declared.token.Token.{Token}
use Rattle.parser_grammar.specs.Trees.{Tree, ItemForm}
use Rattle.parser_grammar.specs.Files.{IsFile, most_open}
use Rattle.expressions.specs.Terms.{Term}
use Rattle.types_names.specs.Scopes.{Scope}
use Rattle.types_names.specs.Meanings.{Means}
use Rattle.compiler.specs.Laws.{EachPart}
use Rattle.compiler.specs.Depths.{depth, IsShortPast}
use Rattle.compiler_laws.specs.TextTrees.{EachTree}

-- At most 64 brackets and operators are open at once in it, and no $past looks back over 64 ticks.
pub record IsShallow (e : Term) : Type 0 where
  pub shallow : depth e ≤ most_open
  pub near : EachPart IsShortPast e

-- What an expression of a text means is so.
abbrev pub MeansShallow : Scope → List (List ℕ) → Tree → Type 0
MeansShallow s columns t = (e : Term) → Means s columns t e → IsShallow e

-- It holds of each expression that a file spells.
abbrev pub TextsAreShallow : Type 0
TextsAreShallow =
    (s : Scope) (columns : List (List ℕ)) (items : List ItemForm) (tokens : List Token) →
    IsFile items tokens → EachTree (MeansShallow s columns) items
