-- Expressions, their widths and their values. Clauses are of IEEE 1800-2017.
use Rattle.std.specs.Prelude.{ℕ, ◌+◌, ◌-◌, ◌*◌, ◌/◌, ◌%◌, ◌^◌, ◌==◌, not, Bool, max, nat_le}
use Rattle.std.specs.Prelude.{if◌then◌else◌}
use Rattle.signals.specs.declared.bits.Bits.{Bits}
use Rattle.expressions.specs.declared.name.Origin.{Origin}
use Rattle.expressions.specs.declared.name.Origin.TheVariants.{Signal, Counter}
use Rattle.expressions.specs.declared.name.Name.{Name}
use Rattle.expressions.specs.declared.slice.Slice.{Slice}
use Rattle.expressions.specs.declared.operator.Arithmetic.{Arithmetic}
use Rattle.expressions.specs.declared.operator.Shift.{Shift}
use Rattle.expressions.specs.declared.operator.Comparison.{Comparison}
use Rattle.expressions.specs.declared.operator.Connective.{Connective}
use Rattle.expressions.specs.declared.operator.Reduction.{Reduction}
use Rattle.expressions.specs.declared.operator.Change.{Change}
use Rattle.expressions.specs.Operators.{complement, arithmetic, shift_value, comparison_value}
use Rattle.expressions.specs.Operators.{connective_value, reduction_value, change_of}

-- an expression, each operator with its operands
pub data Term : Type 0 where
  constant : (bits : Bits) → Term
  -- a signal or a counter, and name[high:low]
  named : (name : Name) → Term
  slice : (part : Slice) → Term
  -- {e} and {a, b}
  group : (e : Term) → Term
  concat : (a b : Term) → Term
  -- ~e
  inverse : (e : Term) → Term
  -- ! & ~& | ~| ^ ~^ of one operand, $onehot $onehot0
  reduce : (op : Reduction) (e : Term) → Term
  -- + - & | ^ ~^
  combine : (op : Arithmetic) (a b : Term) → Term
  -- << >>
  shift : (op : Shift) (a b : Term) → Term
  -- == != < <= > >=
  compare : (op : Comparison) (a b : Term) → Term
  -- && ||
  connect : (op : Connective) (a b : Term) → Term
  -- c ? a : b
  choose : (c a b : Term) → Term
  -- $past(e, ticks)
  past : (e : Term) (ticks : ℕ) → Term
  -- $rose $fell $stable $changed
  change : (op : Change) (e : Term) → Term

-- the own width, in bits (11.6.1, table 11-21)
abbrev pub width_of : Term → ℕ
width_of (constant bits) = bits.width
width_of (named name) = name.width
width_of (slice part) = part.high - part.low + 1
width_of (group e) = width_of e
width_of (concat a b) = width_of a + width_of b
width_of (inverse e) = width_of e
width_of (reduce op e) = 1
width_of (combine op a b) = max (width_of a) (width_of b)
width_of (shift op a b) = width_of a
width_of (compare op a b) = 1
width_of (connect op a b) = 1
width_of (choose c a b) = max (width_of a) (width_of b)
width_of (past e ticks) = width_of e
width_of (change op e) = 1

-- what signals and counters hold, by place and tick
pub record Samples : Type 0 where
  pub signal_at : ℕ → ℕ → ℕ
  pub counter_at : ℕ → ℕ → ℕ

-- the low bits of what a name's column holds (11.5.1)
abbrev pub sample_at : Samples → Origin → ℕ → ℕ → ℕ
sample_at t Signal place k = t.signal_at place k
sample_at t Counter place k = t.counter_at place k

abbrev pub name_at : Samples → Name → ℕ → ℕ
name_at t name k = sample_at t name.origin name.place k % 2 ^ name.width

-- The value at the tick k in a context of w bits, which are no fewer than the own width. An operand
-- that the context determines is taken at the context's width, both of a comparison at the larger
-- of theirs, and any other at its own (11.6.1, 11.8.2). Of a condition the second arm is taken
-- where it is 0 (11.4.11). Before the first tick every value is 0 (16.9.3).
abbrev pub value_of : Samples → Term → ℕ → ℕ → ℕ
value_of t (constant bits) k w = bits.value
value_of t (named name) k w = name_at t name k
value_of t (slice part) k w = name_at t part.name k / 2 ^ part.low % 2 ^ (part.high - part.low + 1)
value_of t (group e) k w = value_of t e k (width_of e)
value_of t (concat a b) k w =
    value_of t a k (width_of a) * 2 ^ width_of b + value_of t b k (width_of b)
value_of t (inverse e) k w = complement w (value_of t e k w)
value_of t (reduce op e) k w = reduction_value op (width_of e) (value_of t e k (width_of e))
value_of t (combine op a b) k w = arithmetic op w (value_of t a k w) (value_of t b k w)
value_of t (shift op a b) k w = shift_value op w (value_of t a k w) (value_of t b k (width_of b))
value_of t (compare op a b) k w =
    comparison_value op (value_of t a k (max (width_of a) (width_of b)))
    (value_of t b k (max (width_of a) (width_of b)))
value_of t (connect op a b) k w =
    connective_value op (value_of t a k (width_of a)) (value_of t b k (width_of b))
value_of t (choose c a b) k w =
    if value_of t c k (width_of c) == 0 then value_of t b k w else value_of t a k w
value_of t (past e ticks) k w = if nat_le ticks k then value_of t e (k - ticks) (width_of e) else 0
value_of t (change op e) k w =
    change_of op (value_of t e k (width_of e)) (if nat_le 1 k then value_of t e (k - 1) (width_of e)
    else 0)

-- whether the expression is true at a tick: its value at its own width is not 0 (16.6)
abbrev pub is_true : Samples → Term → ℕ → Bool
is_true t e k = not (value_of t e k (width_of e) == 0)
