-- Laws of the suites that texts say.
use Rattle.std.specs.Prelude.{List}
use Rattle.parser_grammar.specs.Trees.{ItemForm}
use Rattle.assertions.specs.declared.suite.Suite.{Suite}
use Rattle.types_names.specs.Scopes.{Scope}
use Rattle.types.specs.Suites.{IsSuite}
use Rattle.laws_one_report.specs.Same.{SaySame}

-- A text says one suite over a scope: any two that it may be said to say, say the same.
abbrev pub SuitesAreOne : Type 0
SuitesAreOne =
    (s : Scope) (items : List ItemForm) (one other : Suite) → IsSuite s items one
    → IsSuite s items other → SaySame one other
