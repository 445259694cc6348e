-- The signals and counters that expressions name.
use Rattle.std.specs.Prelude.{List, [], ◌∷◌, ◌++◌, Option, Some, None}
use Rattle.expressions.specs.declared.name.Name.{Name}
use Rattle.expressions.specs.declared.expr.Expr.{Expr}
use Rattle.expressions.specs.declared.rule.Rule.{Rule}
use Rattle.expressions.specs.declared.counter.Counter.{Counter}
use Rattle.expressions.specs.Terms.{Term, constant, named, slice, group, concat, inverse, reduce}
use Rattle.expressions.specs.Terms.{combine, shift, compare, connect, choose, past, change}
use Rattle.expressions.specs.Nodes.{Seen}
use Rattle.expressions.specs.Expressions.{term_of}

-- the names that an expression has, from left to right, each time that it has them
abbrev pub names_in : Term → List Name
names_in (constant bits) = []
names_in (named name) = name ∷ []
names_in (slice part) = part.name ∷ []
names_in (group e) = names_in e
names_in (concat a b) = names_in a ++ names_in b
names_in (inverse e) = names_in e
names_in (reduce op e) = names_in e
names_in (combine op a b) = names_in a ++ names_in b
names_in (shift op a b) = names_in a ++ names_in b
names_in (compare op a b) = names_in a ++ names_in b
names_in (connect op a b) = names_in a ++ names_in b
names_in (choose c a b) = names_in c ++ (names_in a ++ names_in b)
names_in (past e ticks) = names_in e
names_in (change op e) = names_in e

-- those of the operands of a chain, and of parts side by side
abbrev pub operand_names : {O : Type 0} → List (O × Seen) → List Name
operand_names [] = []
operand_names (s ∷ rest) = names_in s.1.term ++ operand_names rest

abbrev pub part_names : List Seen → List Name
part_names [] = []
part_names (part ∷ rest) = names_in part.term ++ part_names rest

abbrev pub expression_names : Option Expr → List Name
expression_names None = []
expression_names (Some e) = names_in (term_of e)

abbrev pub rule_names : Option Rule → List Name
rule_names None = []
rule_names (Some r) = names_in (term_of r.when) ++ names_in (term_of r.by)

-- the names that the clauses of a counter have
abbrev pub counter_names : Counter → List Name
counter_names c =
    expression_names c.clear ++ (rule_names c.load ++ (rule_names c.add ++ rule_names c.sub))
