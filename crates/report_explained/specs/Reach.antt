-- How many clocks back an assertion looks. Own, by 16.9.3 of IEEE 1800-2017.
use Rattle.std.specs.Prelude.{ℕ, ◌+◌, max, List, [], ◌∷◌, Option, Some, None, slice_get}
use Rattle.assertions.specs.declared.assertion.Assertion.{Assertion}
use Rattle.assertions.specs.declared.suite.Suite.{Suite}
use Rattle.expressions.specs.declared.expr.Expr.{Expr}
use Rattle.expressions.specs.Expressions.{term_of}
use Rattle.expressions.specs.Nodes.{Seen}
use Rattle.expressions.specs.Terms.{Term, constant, named, slice, group, concat, inverse, reduce}
use Rattle.expressions.specs.Terms.{combine, shift, compare, connect, choose, past, change}
use Rattle.report_explained.specs.Asked.{capped}

-- how many clocks back an expression is looked for: those of each `$past`, and one for each `$rose`
-- and its kin, added up where one stands in another
abbrev pub reach_of : Term → ℕ
reach_of (constant bits) = 0
reach_of (named name) = 0
reach_of (slice part) = 0
reach_of (group e) = reach_of e
reach_of (concat a b) = max (reach_of a) (reach_of b)
reach_of (inverse e) = reach_of e
reach_of (reduce op e) = reach_of e
reach_of (combine op a b) = max (reach_of a) (reach_of b)
reach_of (shift op a b) = max (reach_of a) (reach_of b)
reach_of (compare op a b) = max (reach_of a) (reach_of b)
reach_of (connect op a b) = max (reach_of a) (reach_of b)
reach_of (choose c a b) = max (reach_of c) (max (reach_of a) (reach_of b))
reach_of (past e ticks) = capped (reach_of e + ticks)
reach_of (change op e) = capped (reach_of e + 1)

-- the most of the operands of a chain, and of parts side by side
abbrev pub reach_of_operands : {O : Type 0} → List (O × Seen) → ℕ
reach_of_operands [] = 0
reach_of_operands (s ∷ rest) = max (reach_of s.1.term) (reach_of_operands rest)

abbrev pub reach_of_parts : List Seen → ℕ
reach_of_parts [] = 0
reach_of_parts (part ∷ rest) = max (reach_of part.term) (reach_of_parts rest)

abbrev pub reach_at : Option Expr → ℕ
reach_at None = 0
reach_at (Some e) = reach_of (term_of e)

abbrev pub reach_of_places : List Expr → List ℕ → ℕ
reach_of_places booleans [] = 0
reach_of_places booleans (place ∷ places) =
    max (reach_at (slice_get booleans place)) (reach_of_places booleans places)

-- that of the booleans of an assertion, and at least one
abbrev pub reach : Suite → Assertion → ℕ
reach suite a = max 1 (reach_of_places suite.booleans.items a.booleans.items)
