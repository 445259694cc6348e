-- Laws of values and counters.
use Rattle.std.specs.Prelude.{◌≡◌, ℕ, ◌+◌, ◌/◌, ◌%◌, ◌^◌, ◌<◌, ◌≤◌, max, List, Some, slice_get}
use Rattle.expressions.specs.declared.operator.Shift.{Shift}
use Rattle.expressions.specs.declared.operator.Comparison.{Comparison}
use Rattle.expressions.specs.Operators.{comparison_value}
use Rattle.expressions.specs.declared.counter.Counter.{Counter}
use Rattle.expressions.specs.Terms.{Term, Samples, concat, shift, compare, width_of, value_of}
use Rattle.expressions.specs.Counters.{next_of, counter_at, counter_samples}

-- A value in a context of w bits has w bits.
abbrev pub ValuesFit : Type 0
ValuesFit = (t : Samples) (e : Term) (k w : ℕ) → width_of e ≤ w → value_of t e k w < 2 ^ w

-- Two samples hold the same up to the tick k.
pub record AgreeTo (k : ℕ) (t u : Samples) : Type 0 where
  pub signals : (place j : ℕ) → j ≤ k → t.signal_at place j ≡ u.signal_at place j
  pub counters : (place j : ℕ) → j ≤ k → t.counter_at place j ≡ u.counter_at place j

-- A value at a tick rests on nothing that comes later.
abbrev pub ValuesAreCausal : Type 0
ValuesAreCausal =
    (t u : Samples) (e : Term) (k w : ℕ) → AgreeTo k t u → value_of t e k w ≡ value_of u e k w

-- A counter is 0 at the first tick, at each next one what its clauses say of the tick before, and
-- always within its width.
pub record CountsByRule (signal_at : ℕ → ℕ → ℕ) (counters : List Counter) : Type 0 where
  pub first : (i : ℕ) → counter_at signal_at counters i 0 ≡ 0
  pub next : (i k : ℕ) →
      counter_at signal_at counters i (k + 1)
      ≡ next_of (counter_samples signal_at counters) (slice_get counters i)
      (counter_at signal_at counters i k) k
  pub fits : (i k : ℕ) (c : Counter) → slice_get counters i ≡ Some c
      → counter_at signal_at counters i k < 2 ^ c.width

abbrev pub CountersCount : Type 0
CountersCount = (signal_at : ℕ → ℕ → ℕ) (counters : List Counter) → CountsByRule signal_at counters

-- A chain of comparisons compares the one bit of those before: a < b < c is (a < b) < c, of which
-- the left side has one bit.
abbrev pub ChainsCompareBits : Type 0
ChainsCompareBits =
    (t : Samples) (first second : Comparison) (a b c : Term) (k w : ℕ) →
    value_of t (compare second (compare first a b) c) k w
    ≡ comparison_value second (value_of t (compare first a b) k 1)
    (value_of t c k (max 1 (width_of c)))

-- In {a, b} each part stands as it does alone: b in the low bits, a above.
pub record PartsStandAlone (t : Samples) (a b : Term) (k w : ℕ) : Type 0 where
  pub low : value_of t (concat a b) k w % 2 ^ width_of b ≡ value_of t b k (width_of b)
  pub high : value_of t (concat a b) k w / 2 ^ width_of b ≡ value_of t a k (width_of a)

abbrev pub ConcatsKeepParts : Type 0
ConcatsKeepParts = (t : Samples) (a b : Term) (k w : ℕ) → PartsStandAlone t a b k w

-- A shift by the width of the context or more gives 0.
abbrev pub LongShiftsGiveZero : Type 0
LongShiftsGiveZero =
    (t : Samples) (op : Shift) (a b : Term) (k w : ℕ) → width_of a ≤ w
    → w ≤ value_of t b k (width_of b) → value_of t (shift op a b) k w ≡ 0
