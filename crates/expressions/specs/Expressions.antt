-- Typed expressions.
use Rattle.expressions.specs.declared.expr.Expr.{Expr}
use Rattle.expressions.specs.Terms.{Term}
use Rattle.expressions.specs.Nodes.{node_term}

-- the term that an expression stands for
abbrev pub term_of : Expr → Term
term_of e = node_term e.node
