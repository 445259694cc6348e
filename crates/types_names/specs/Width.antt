-- Operators of the text, and own widths (IEEE 1800-2017, 11.6.1, table 11-21).
use Rattle.std.specs.Prelude.{ℕ, ◌+◌, ◌-◌, ◌%◌, ◌^◌, max, List, Option, Some, None}
use Rattle.lexer.specs.declared.token.Number.{Number}
use Rattle.lexer.specs.declared.token.Token.{Token}
use Rattle.lexer.specs.Numbers.{number_width}
use Rattle.parser_grammar.specs.declared.bound.Bound.{Bound}
use Rattle.parser_grammar.specs.declared.bound.Index.{Index}
use Rattle.parser_grammar.specs.declared.bound.Select.{Select}
use Rattle.parser_grammar.specs.declared.mark.Function.{Function}
use Rattle.parser_grammar.specs.declared.mark.Function.TheVariants.{Rose, Fell, Stable, Changed}
use Rattle.parser_grammar.specs.declared.mark.Function.TheVariants.{OneHot}
use Rattle.parser_grammar.specs.declared.mark.Function.TheVariants.{OneHot0}
use Rattle.parser_grammar.specs.declared.operator.Infix.{Infix}
use Rattle.parser_grammar.specs.declared.operator.Infix.TheVariants as infixes
use Rattle.parser_grammar.specs.declared.operator.Prefix.{Prefix}
use Rattle.parser_grammar.specs.declared.operator.Prefix.TheVariants as prefixes
use Rattle.parser_grammar.specs.Trees.{Tree, number, path, concatenation, past, call, unary, chain}
use Rattle.parser_grammar.specs.Trees.{choice}
use Rattle.parser_grammar.specs.Trees.{Links, end, link, Parts, no_part, part}
use Rattle.expressions.specs.declared.operator.Arithmetic.TheVariants as arithmetic
use Rattle.expressions.specs.declared.operator.Shift.TheVariants as shifts
use Rattle.expressions.specs.declared.operator.Comparison.TheVariants as comparisons
use Rattle.expressions.specs.declared.operator.Connective.TheVariants as connectives
use Rattle.expressions.specs.declared.operator.Reduction.TheVariants as reductions
use Rattle.expressions.specs.declared.operator.Change.TheVariants as changes
use Rattle.types_names.specs.declared.operator.Binary.{Binary}
use Rattle.types_names.specs.declared.operator.Binary.TheVariants.{Arithmetic, Shift}
use Rattle.types_names.specs.declared.operator.Binary.TheVariants.{Comparison, Connective}
use Rattle.types_names.specs.declared.operator.Unary.{Unary}
use Rattle.types_names.specs.declared.operator.Unary.TheVariants as unaries
use Rattle.types_names.specs.declared.operator.Call.{Call}
use Rattle.types_names.specs.declared.operator.Call.TheVariants as calls
use Rattle.types_names.specs.Scopes.{Scope, width_in, meaning, bits_of}

-- what the left operators do
abbrev pub binary_of : Infix → Binary
binary_of infixes.Add = Arithmetic arithmetic.Add
binary_of infixes.Sub = Arithmetic arithmetic.Sub
binary_of infixes.ShiftLeft = Shift shifts.Left
binary_of infixes.ShiftRight = Shift shifts.Right
binary_of infixes.Less = Comparison comparisons.Less
binary_of infixes.LessEqual = Comparison comparisons.AtMost
binary_of infixes.Greater = Comparison comparisons.Greater
binary_of infixes.GreaterEqual = Comparison comparisons.AtLeast
binary_of infixes.Equal = Comparison comparisons.Equal
binary_of infixes.NotEqual = Comparison comparisons.Differs
binary_of infixes.And = Arithmetic arithmetic.And
binary_of infixes.Xor = Arithmetic arithmetic.Xor
binary_of infixes.Xnor = Arithmetic arithmetic.Xnor
binary_of infixes.Or = Arithmetic arithmetic.Or
binary_of infixes.LogicalAnd = Connective connectives.Both
binary_of infixes.LogicalOr = Connective connectives.Either

-- what the unary operators do
abbrev pub unary_of : Prefix → Unary
unary_of prefixes.Not = unaries.Reduce reductions.Zero
unary_of prefixes.Complement = unaries.Complement
unary_of prefixes.And = unaries.Reduce reductions.AllOnes
unary_of prefixes.Nand = unaries.Reduce reductions.NotAllOnes
unary_of prefixes.Or = unaries.Reduce reductions.NonZero
unary_of prefixes.Nor = unaries.Reduce reductions.Zero
unary_of prefixes.Xor = unaries.Reduce reductions.Odd
unary_of prefixes.Xnor = unaries.Reduce reductions.Even

abbrev pub call_of : Function → Call
call_of Rose = calls.Change changes.Rose
call_of Fell = calls.Change changes.Fell
call_of Stable = calls.Change changes.Stable
call_of Changed = calls.Change changes.Changed
call_of OneHot = calls.Reduce reductions.OneHot
call_of OneHot0 = calls.Reduce reductions.OneHotOrZero

-- a number's width, and its value, which fits it
abbrev pub literal_width : Number → ℕ
literal_width n = width_in (number_width n)

abbrev pub literal_value : Number → ℕ
literal_value n = n.value % 2 ^ literal_width n

-- the bits of a select: [high:low], or one bit
abbrev pub low_or : ℕ → Option Index → ℕ
low_or high None = high
low_or high (Some low) = low.value

abbrev pub high_of : Select → ℕ
high_of x = x.high.value

abbrev pub low_of : Select → ℕ
low_of x = low_or x.high.value x.low

-- ticks of $past
abbrev pub ticks_before : Option Bound → ℕ
ticks_before None = 1
ticks_before (Some n) = n.value

-- A path that can't be read counts as one bit, as does a select whose high bit is below its low one
-- (1 + what is left of high - low, at least 0). A select counts as it is written, also where its
-- name has fewer bits.
abbrev pub path_width_by : Option ℕ → Option Select → ℕ
path_width_by None None = 1
path_width_by (Some width) None = width
path_width_by bits (Some x) = high_of x - low_of x + 1

abbrev pub path_width : Scope → List Token → Option Select → ℕ
path_width s words x = path_width_by (bits_of (meaning s words)) x

-- the width of an operator's result, from those of its operands
abbrev pub binary_width : Binary → ℕ → ℕ → ℕ
binary_width (Arithmetic op) a b = max a b
binary_width (Shift op) a b = a
binary_width (Comparison op) a b = 1
binary_width (Connective op) a b = 1

abbrev pub unary_width : Unary → ℕ → ℕ
unary_width unaries.Complement a = a
unary_width (unaries.Reduce op) a = 1

-- the own width, in bits
unfoldable mutual
  pub own_width : Scope → Tree → ℕ
  own_width s (number n t) = literal_width n
  own_width s (path words x) = path_width s words x
  own_width s (concatenation t e parts) = parts_width s (own_width s e) parts
  own_width s (past t e n) = own_width s e
  own_width s (call f t e) = 1
  own_width s (unary op t e) = unary_width (unary_of op) (own_width s e)
  own_width s (chain e links) = chain_width s (own_width s e) links
  own_width s (choice c a b) = max (own_width s a) (own_width s b)

  -- of operators from the left, after an operand of so many bits
  pub chain_width : Scope → ℕ → Links → ℕ
  chain_width s w end = w
  chain_width s w (link op e links) =
      chain_width s (binary_width (binary_of op) w (own_width s e)) links

  -- of parts after so many bits
  pub parts_width : Scope → ℕ → Parts → ℕ
  parts_width s w no_part = w
  parts_width s w (part e parts) = parts_width s (w + own_width s e) parts
