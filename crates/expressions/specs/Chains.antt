-- The values that chains make of the value so far. Contracts of public functions name no chain.
use Rattle.std.specs.Prelude.{ℕ, ◌+◌, ◌*◌, ◌^◌, ◌≤◌, max, List, [], ◌∷◌}
use Rattle.expressions.specs.declared.operator.Arithmetic.{Arithmetic}
use Rattle.expressions.specs.declared.operator.Shift.{Shift}
use Rattle.expressions.specs.declared.operator.Comparison.{Comparison}
use Rattle.expressions.specs.declared.operator.Connective.{Connective}
use Rattle.expressions.specs.Operators.{arithmetic, shift_value, comparison_value, connective_value}
use Rattle.expressions.specs.Terms.{Samples, width_of, value_of}
use Rattle.expressions.specs.Nodes.{Seen}

-- sums at the width of the context
abbrev pub sums_from : Samples → ℕ → ℕ → ℕ → List (Arithmetic × Seen) → ℕ
sums_from t k w v [] = v
sums_from t k w v (s ∷ rest) = sums_from t k w (arithmetic s.0 w v (value_of t s.1.term k w)) rest

-- shifts by counts at their own widths
abbrev pub shifts_from : Samples → ℕ → ℕ → ℕ → List (Shift × Seen) → ℕ
shifts_from t k w v [] = v
shifts_from t k w v (s ∷ rest) =
    shifts_from t k w (shift_value s.0 w v (value_of t s.1.term k (width_of s.1.term))) rest

-- comparisons at the larger width, of which the value so far has w bits at first and then one
abbrev pub compares_from : Samples → ℕ → ℕ → ℕ → List (Comparison × Seen) → ℕ
compares_from t k w v [] = v
compares_from t k w v (s ∷ rest) =
    compares_from t k 1 (comparison_value s.0 v (value_of t s.1.term k (max w (width_of s.1.term))))
    rest

-- connectives of operands at their own widths
abbrev pub connects_from : Samples → ℕ → ℕ → List (Connective × Seen) → ℕ
connects_from t k v [] = v
connects_from t k v (s ∷ rest) =
    connects_from t k (connective_value s.0 v (value_of t s.1.term k (width_of s.1.term))) rest

-- parts at their own widths
abbrev pub concats_from : Samples → ℕ → ℕ → List Seen → ℕ
concats_from t k v [] = v
concats_from t k v (part ∷ rest) =
    concats_from t k (v * 2 ^ width_of part.term + value_of t part.term k (width_of part.term)) rest

-- the width of the parts so far, and of all
abbrev pub total_of : ℕ → List Seen → ℕ
total_of w [] = w
total_of w (part ∷ rest) = total_of (w + width_of part.term) rest

-- one bit after a test
abbrev pub tested_width : {O : Type 0} → ℕ → List (O × Seen) → ℕ
tested_width w [] = w
tested_width w (s ∷ rest) = tested_width 1 rest

-- each operand is no wider than the context
abbrev pub AllNarrow : {O : Type 0} → ℕ → List (O × Seen) → Type 0
AllNarrow w [] = Unit {0}
AllNarrow w (s ∷ rest) = (width_of s.1.term ≤ w) × AllNarrow w rest
