-- How many brackets and unfinished operators are open at once in the text of an expression.
use Rattle.std.specs.Prelude.{ℕ, ◌+◌, ◌-◌, ◌*◌, ◌≤◌, max, nat_le, if◌then◌else◌, List}
use Rattle.std.specs.List.{AllByRecursion}
use Rattle.expressions.specs.declared.operator.Arithmetic.{Arithmetic}
use Rattle.expressions.specs.declared.operator.Arithmetic.TheVariants as arithmetic
use Rattle.expressions.specs.declared.operator.Comparison.{Comparison}
use Rattle.expressions.specs.declared.operator.Comparison.TheVariants.{Equal, Differs}
use Rattle.expressions.specs.declared.operator.Connective.{Connective}
use Rattle.expressions.specs.declared.operator.Connective.TheVariants.{Both, Either}
use Rattle.expressions.specs.declared.operator.Reduction.{Reduction}
use Rattle.expressions.specs.declared.operator.Reduction.TheVariants.{OneHot, OneHotOrZero}
use Rattle.expressions.specs.Terms.{Term, constant, named, slice, group, concat, inverse, reduce}
use Rattle.expressions.specs.Terms.{combine, shift, compare, connect, choose, past, change}
use Rattle.compiler.specs.Samples.{Held, sample_need, sample_reach}
use Rattle.compiler.specs.Laws.{EachPart, program_terms}

-- How loosely operators join their operands: 1 to 9 are left operators, from the tightest, 10 is
-- the condition, and 0 is what needs no brackets anywhere (11.3.2).
abbrev pub arithmetic_level : Arithmetic → ℕ
arithmetic_level arithmetic.Add = 1
arithmetic_level arithmetic.Sub = 1
arithmetic_level arithmetic.And = 5
arithmetic_level arithmetic.Xor = 6
arithmetic_level arithmetic.Xnor = 6
arithmetic_level arithmetic.Or = 7

abbrev pub comparison_level : Comparison → ℕ
comparison_level Equal = 4
comparison_level Differs = 4
comparison_level op = 3

abbrev pub connective_level : Connective → ℕ
connective_level Both = 8
connective_level Either = 9

abbrev pub term_level : Term → ℕ
term_level (combine op a b) = arithmetic_level op
term_level (shift op a b) = 2
term_level (compare op a b) = comparison_level op
term_level (connect op a b) = connective_level op
term_level (choose c a b) = 10
term_level e = 0

-- brackets round what is looser than its place allows
abbrev pub bracketed : ℕ → ℕ → ℕ → ℕ
bracketed most term_level depth = if nat_le term_level most then depth else 1 + depth

-- A left operator takes what is no looser than itself on its left, and what is tighter on its
-- right.
abbrev pub left_depth : ℕ → ℕ → ℕ → ℕ → ℕ → ℕ
left_depth own left_level left right_level right =
    max (bracketed own left_level left) (bracketed (own - 1) right_level right)

-- $onehot and $onehot0 have brackets of their own; the others are unary operators.
abbrev pub reduction_depth : Reduction → ℕ → ℕ → ℕ
reduction_depth OneHot term_level depth = 1 + depth
reduction_depth OneHotOrZero term_level depth = 1 + depth
reduction_depth op term_level depth = 1 + bracketed 0 term_level depth

-- {a, b, c} has one pair of braces.
abbrev pub braced : Term → ℕ → ℕ
braced (concat a b) depth = depth
braced e depth = 1 + depth

-- The brackets of a bit select, braces and calls, unary operators until their operands end, and a
-- condition until its last arm ends.
abbrev pub depth : Term → ℕ
depth (constant bits) = 0
depth (named name) = 0
depth (slice part) = 1
depth (group e) = 1 + depth e
depth (concat a b) = max (braced a (depth a)) (1 + depth b)
depth (inverse e) = 1 + bracketed 0 (term_level e) (depth e)
depth (reduce op e) = reduction_depth op (term_level e) (depth e)
depth (combine op a b) = left_depth (arithmetic_level op) (term_level a) (depth a) (term_level b)
    (depth b)
depth (shift op a b) = left_depth 2 (term_level a) (depth a) (term_level b) (depth b)
depth (compare op a b) = left_depth (comparison_level op) (term_level a) (depth a) (term_level b)
    (depth b)
depth (connect op a b) = left_depth (connective_level op) (term_level a) (depth a) (term_level b)
    (depth b)
depth (choose c a b) = max (bracketed 9 (term_level c) (depth c)) (1 + max (depth a) (depth b))
depth (past e ticks) = 1 + depth e
depth (change op e) = 1 + depth e

-- no $past reaches further than 64 ticks
abbrev pub IsShortPast : Term → Type 0
IsShortPast (past e ticks) = ticks ≤ 64
IsShortPast e = Unit {0}

-- What the code of expressions of at most such a depth asks of the stack and of the history.
pub record IsBounded (es : List Term) (hs : List Held) (most : ℕ) : Type 0 where
  pub need : sample_need es hs ≤ 11 * most + 17
  pub reach : sample_reach es hs ≤ 64 * most

abbrev pub DepthBoundsCode : Type 0
DepthBoundsCode =
    (es : List Term) (hs : List Held) (most : ℕ) →
    AllByRecursion (λ e. depth e ≤ most) (program_terms es hs) →
    AllByRecursion (EachPart IsShortPast) (program_terms es hs) → IsBounded es hs most
