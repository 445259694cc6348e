-- Values fit the width of their context.
use Rattle.std.proofs.Common.{ℕ, ◌+◌, ◌-◌, ◌*◌, ◌/◌, ◌%◌, ◌^◌, ◌<◌, ◌≤◌, max, Bool, true, false, arith}
use Rattle.std.specs.Prelude.{◌==◌, nat_le, nat_lt, not, count_ones, bit_xor, ◌&&◌, ◌||◌, if◌then◌else◌}
use Rattle.std.proofs.lemmas.Nat.{and_le_l, or_lt, xor_lt, pow_pos, shr_le}
use Rattle.std.proofs.lemmas.Bool.{cond_both}
use Rattle.signals.specs.Tests.{one_if}
use Rattle.signals.proofs.Widths.{fits_wider, joined_fits}
use Rattle.std.proofs.Math.Nat.{mod-lt}
use Rattle.expressions.specs.declared.operator.Arithmetic.{Arithmetic}
use Rattle.expressions.specs.declared.operator.Arithmetic.TheVariants.{Add, Sub, And, Or, Xor, Xnor}
use Rattle.expressions.specs.declared.operator.Shift.{Shift}
use Rattle.expressions.specs.declared.operator.Shift.TheVariants.{Left, Right}
use Rattle.expressions.specs.declared.operator.Comparison.{Comparison}
use Rattle.expressions.specs.declared.operator.Comparison.TheVariants.{Equal, Differs, Less, AtMost, Greater, AtLeast}
use Rattle.expressions.specs.declared.operator.Connective.{Connective}
use Rattle.expressions.specs.declared.operator.Connective.TheVariants.{Both, Either}
use Rattle.expressions.specs.declared.operator.Reduction.{Reduction}
use Rattle.expressions.specs.declared.operator.Reduction.TheVariants.{Zero, NonZero, AllOnes, NotAllOnes, Odd, Even}
use Rattle.expressions.specs.declared.operator.Reduction.TheVariants.{OneHot, OneHotOrZero}
use Rattle.expressions.specs.declared.operator.Change.{Change}
use Rattle.expressions.specs.declared.operator.Change.TheVariants.{Rose, Fell, Stable, Changed}
use Rattle.expressions.specs.Operators.{complement, arithmetic, shift_value, comparison_value, connective_value}
use Rattle.expressions.specs.Operators.{reduction_value, change_of}
use Rattle.expressions.specs.Terms.{constant, named, slice, group, concat, inverse, reduce, combine, shift, compare}
use Rattle.expressions.specs.Terms.{connect, choose, past, change, width_of, sample_at, name_at, value_of}
use Rattle.expressions.specs.Laws.{ValuesFit}

bit_small : (b : Bool) → one_if b ≤ 1
bit_small true = omega arith
bit_small false = omega arith

pub cut_fits : (n w : ℕ) → n % 2 ^ w < 2 ^ w
cut_fits n w = mod-lt n (pow_pos w)

complement_fits : (w a : ℕ) → complement w a < 2 ^ w
complement_fits w a = omega (arith, pow_pos w)

one_fits : (v w : ℕ) → v ≤ 1 → 1 ≤ w → v < 2 ^ w
one_fits v w small some = fits_wider v 1 w some (omega arith)

arithmetic_fits : (op : Arithmetic) (w a b : ℕ) → a < 2 ^ w → b < 2 ^ w → arithmetic op w a b < 2 ^ w
arithmetic_fits Add w a b g h = cut_fits (a + b) w
arithmetic_fits Sub w a b g h = cut_fits (a + (2 ^ w - b)) w
arithmetic_fits And w a b g h = omega (arith, and_le_l a b)
arithmetic_fits Or w a b g h = or_lt w a b g h
arithmetic_fits Xor w a b g h = xor_lt w a b g h
arithmetic_fits Xnor w a b g h = complement_fits w (bit_xor a b)

shifted_fits : (op : Shift) (w a n : ℕ) → a < 2 ^ w → shift_value op w a n < 2 ^ w
shifted_fits Left w a n g = cut_fits (a * 2 ^ n) w
shifted_fits Right w a n g = omega (arith, shr_le a n)

compared_small : (op : Comparison) (a b : ℕ) → comparison_value op a b ≤ 1
compared_small Equal a b = bit_small (a == b)
compared_small Differs a b = bit_small (not (a == b))
compared_small Less a b = bit_small (nat_lt a b)
compared_small AtMost a b = bit_small (nat_le a b)
compared_small Greater a b = bit_small (nat_lt b a)
compared_small AtLeast a b = bit_small (nat_le b a)

connected_small : (op : Connective) (a b : ℕ) → connective_value op a b ≤ 1
connected_small Both a b = bit_small (not (a == 0) && not (b == 0))
connected_small Either a b = bit_small (not (a == 0) || not (b == 0))

reduced_small : (op : Reduction) (w a : ℕ) → reduction_value op w a ≤ 1
reduced_small Zero w a = bit_small (a == 0)
reduced_small NonZero w a = bit_small (not (a == 0))
reduced_small AllOnes w a = bit_small (a + 1 == 2 ^ w)
reduced_small NotAllOnes w a = bit_small (not (a + 1 == 2 ^ w))
reduced_small Odd w a = omega arith
reduced_small Even w a = omega arith
reduced_small OneHot w a = bit_small (count_ones a == 1)
reduced_small OneHotOrZero w a = bit_small (nat_lt (count_ones a) 2)

change_small : (op : Change) (now before : ℕ) → change_of op now before ≤ 1
change_small Rose now before = bit_small ((now % 2 == 1) && (before % 2 == 0))
change_small Fell now before = bit_small ((now % 2 == 0) && (before % 2 == 1))
change_small Stable now before = bit_small (now == before)
change_small Changed now before = bit_small (not (now == before))

pub value_fits : ValuesFit
value_fits t (constant bits) k w le = fits_wider bits.value bits.width w le bits.fits
value_fits t (named name) k w le =
    fits_wider _ name.width w le (cut_fits (sample_at t name.origin name.place k) name.width)
value_fits t (slice part) k w le =
    fits_wider _ (part.high - part.low + 1) w le
    (cut_fits (name_at t part.name k / 2 ^ part.low) (part.high - part.low + 1))
value_fits t (group e) k w le = fits_wider _ (width_of e) w le (value_fits t e k (width_of e) (omega arith))
value_fits t (concat a b) k w le =
    fits_wider _ (width_of a + width_of b) w le
    (joined_fits (value_of t a k (width_of a)) (width_of a) (value_of t b k (width_of b)) (width_of b)
    (value_fits t a k (width_of a) (omega arith)) (value_fits t b k (width_of b) (omega arith)))
value_fits t (inverse e) k w le = complement_fits w (value_of t e k w)
value_fits t (reduce op e) k w le = one_fits _ w (reduced_small op (width_of e) (value_of t e k (width_of e))) le
value_fits t (combine op a b) k w le =
    arithmetic_fits op w (value_of t a k w) (value_of t b k w) (value_fits t a k w (omega arith))
    (value_fits t b k w (omega arith))
value_fits t (shift op a b) k w le =
    shifted_fits op w (value_of t a k w) (value_of t b k (width_of b)) (value_fits t a k w le)
value_fits t (compare op a b) k w le =
    one_fits _ w
    (compared_small op (value_of t a k (max (width_of a) (width_of b)))
    (value_of t b k (max (width_of a) (width_of b)))) le
value_fits t (connect op a b) k w le =
    one_fits _ w (connected_small op (value_of t a k (width_of a)) (value_of t b k (width_of b))) le
value_fits t (choose c a b) k w le =
    cond_both (value_of t c k (width_of c) == 0) (value_of t b k w) (value_of t a k w) (λ (n : ℕ). n < 2 ^ w)
    (λ _. value_fits t b k w (omega arith)) (λ _. value_fits t a k w (omega arith))
value_fits t (past e ticks) k w le =
    cond_both (nat_le ticks k) (value_of t e (k - ticks) (width_of e)) 0 (λ (n : ℕ). n < 2 ^ w)
    (λ _. fits_wider _ (width_of e) w le (value_fits t e (k - ticks) (width_of e) (omega arith))) (λ _. pow_pos w)
value_fits t (change op e) k w le =
    one_fits _ w
    (change_small op (value_of t e k (width_of e)) (if nat_le 1 k then value_of t e (k - 1) (width_of e) else 0))
    le
