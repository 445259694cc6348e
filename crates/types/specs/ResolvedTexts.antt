-- What the code keeps of a text's assertions after the faults of their sides.
use Rattle.std.specs.Prelude.{ℕ, List, map}
use Rattle.parser_grammar.specs.Trees as trees
use Rattle.expressions.specs.declared.expr.Expr.{Expr}
use Rattle.assertions.specs.declared.sequence.Boolean.{Boolean}
use Rattle.types.specs.Drafts.{Draft}
use Rattle.types_names.specs.Scopes.{Scope}
use Rattle.types.specs.declared.resolved.Resolved.{Resolved}
use Rattle.types.specs.Made.{AreFitting}
use Rattle.types.specs.Readings.{AllRead}
use Rattle.types.specs.Resolved.{AreResolved}
use Rattle.types.specs.Texts.{declarations_of, assertions_of}

-- The assertions of a text are resolved over its named sequences, and their sides weigh at most
-- 127.
pub record HasResolved (s : Scope) (columns : List (List ℕ)) (booleans : List Expr)
    (items : List trees.ItemForm) (resolved : List Resolved) : Type 0 where
  pub bodies : List (Draft Boolean)
  pub read : AllRead s columns booleans (map (λ d. d.body) (declarations_of items)) bodies
  pub made : AreResolved s columns booleans bodies 0 (assertions_of items) resolved
  pub fit : AreFitting resolved
