-- What operators give, as mathematics on natural numbers. Every value is unsigned. Clauses are of
-- IEEE 1800-2017.
use Rattle.std.specs.Prelude.{ℕ, ◌+◌, ◌-◌, ◌*◌, ◌/◌, ◌%◌, ◌^◌, ◌==◌, nat_lt, nat_le, not, ◌&&◌}
use Rattle.std.specs.Prelude.{◌||◌, bit_and, bit_or, bit_xor, count_ones}
use Rattle.signals.specs.Tests.{one_if}
use Rattle.expressions.specs.declared.operator.Arithmetic.{Arithmetic}
use Rattle.expressions.specs.declared.operator.Arithmetic.TheVariants.{Add, Sub, And, Or, Xor, Xnor}
use Rattle.expressions.specs.declared.operator.Shift.{Shift}
use Rattle.expressions.specs.declared.operator.Shift.TheVariants.{Left, Right}
use Rattle.expressions.specs.declared.operator.Comparison.{Comparison}
use Rattle.expressions.specs.declared.operator.Comparison.TheVariants.{Equal, Differs, Less, AtMost}
use Rattle.expressions.specs.declared.operator.Comparison.TheVariants.{Greater, AtLeast}
use Rattle.expressions.specs.declared.operator.Connective.{Connective}
use Rattle.expressions.specs.declared.operator.Connective.TheVariants.{Both, Either}
use Rattle.expressions.specs.declared.operator.Reduction.{Reduction}
use Rattle.expressions.specs.declared.operator.Reduction.TheVariants.{Zero, NonZero, AllOnes}
use Rattle.expressions.specs.declared.operator.Reduction.TheVariants.{NotAllOnes, Odd, Even, OneHot}
use Rattle.expressions.specs.declared.operator.Reduction.TheVariants.{OneHotOrZero}
use Rattle.expressions.specs.declared.operator.Change.{Change}
use Rattle.expressions.specs.declared.operator.Change.TheVariants.{Rose, Fell, Stable, Changed}

-- each bit of a number of w bits turned (11.4.8)
abbrev pub complement : ℕ → ℕ → ℕ
complement w a = 2 ^ w - 1 - a

-- two numbers of w bits, modulo 2 to the w (11.4.3, 11.4.8)
abbrev pub arithmetic : Arithmetic → ℕ → ℕ → ℕ → ℕ
arithmetic Add w a b = (a + b) % 2 ^ w
arithmetic Sub w a b = (a + (2 ^ w - b)) % 2 ^ w
arithmetic And w a b = bit_and a b
arithmetic Or w a b = bit_or a b
arithmetic Xor w a b = bit_xor a b
arithmetic Xnor w a b = complement w (bit_xor a b)

-- a number of w bits by any count; a count of w or more leaves 0 (11.4.10)
abbrev pub shift_value : Shift → ℕ → ℕ → ℕ → ℕ
shift_value Left w a count = a * 2 ^ count % 2 ^ w
shift_value Right w a count = a / 2 ^ count

-- two numbers as they are (11.4.4, 11.4.5)
abbrev pub comparison_value : Comparison → ℕ → ℕ → ℕ
comparison_value Equal a b = one_if (a == b)
comparison_value Differs a b = one_if (not (a == b))
comparison_value Less a b = one_if (nat_lt a b)
comparison_value AtMost a b = one_if (nat_le a b)
comparison_value Greater a b = one_if (nat_lt b a)
comparison_value AtLeast a b = one_if (nat_le b a)

-- a number is true where it is not 0 (11.4.7)
abbrev pub connective_value : Connective → ℕ → ℕ → ℕ
connective_value Both a b = one_if (not (a == 0) && not (b == 0))
connective_value Either a b = one_if (not (a == 0) || not (b == 0))

-- all bits of a number of w bits (11.4.7, 11.4.9, 20.9)
abbrev pub reduction_value : Reduction → ℕ → ℕ → ℕ
reduction_value Zero w a = one_if (a == 0)
reduction_value NonZero w a = one_if (not (a == 0))
reduction_value AllOnes w a = one_if (a + 1 == 2 ^ w)
reduction_value NotAllOnes w a = one_if (not (a + 1 == 2 ^ w))
reduction_value Odd w a = count_ones a % 2
reduction_value Even w a = 1 - count_ones a % 2
reduction_value OneHot w a = one_if (count_ones a == 1)
reduction_value OneHotOrZero w a = one_if (nat_lt (count_ones a) 2)

-- a value and that of one tick before: the lowest bit, or the whole (16.9.3)
abbrev pub change_of : Change → ℕ → ℕ → ℕ
change_of Rose now before = one_if ((now % 2 == 1) && (before % 2 == 0))
change_of Fell now before = one_if ((now % 2 == 0) && (before % 2 == 1))
change_of Stable now before = one_if (now == before)
change_of Changed now before = one_if (not (now == before))
