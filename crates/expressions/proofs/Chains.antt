-- Chains, operator by operator.
use Rattle.std.proofs.Common.{◌≡◌, ℕ, ◌+◌, ◌<◌, ◌≤◌, max, List, [], ◌∷◌, map, drop, length, get_or, refl, arith}
use Rattle.std.proofs.Common.{drop-cons, add-one, IsTrue}
use Rattle.std.proofs.lemmas.Bool.{and_parts}
use Rattle.expressions.specs.declared.node.Node.{Node}
use Rattle.expressions.specs.declared.operator.Arithmetic.{Arithmetic}
use Rattle.expressions.specs.declared.operator.Shift.{Shift}
use Rattle.expressions.specs.declared.operator.Comparison.{Comparison}
use Rattle.expressions.specs.declared.operator.Connective.{Connective}
use Rattle.expressions.specs.Terms.{Term, Samples, concat, combine, shift, compare, connect, width_of, value_of}
use Rattle.expressions.specs.Nodes.{Seen, chain_term, concatenation_term, width_compared, has_some, has_part, all_typed}
use Rattle.expressions.specs.Nodes.{node_term, is_typed, step_of}
use Rattle.expressions.specs.Chains.{sums_from, shifts_from, compares_from, connects_from, concats_from, total_of}
use Rattle.expressions.specs.Chains.{tested_width, AllNarrow}

-- the step at a place, and those after it
pub step_at : {A : Type 0} (B : Type 0) (f : A → B) (xs : List A) (i : ℕ) (x : A) → i < length xs → x ≡ get_or xs i x →
    map f (drop i xs) ≡ f x ∷ map f (drop (i + 1) xs)
step_at B f xs i x lt is = rw (drop-cons xs i x lt, add-one, ← is) refl

pub typed_at : (O : Type 0) (xs : List (O × Node)) (i : ℕ) (x : O × Node) → i < length xs → x ≡ get_or xs i x →
    IsTrue (all_typed (map step_of (drop i xs))) → IsTrue (is_typed x.1)
typed_at O xs i x lt is h =
    (and_parts (is_typed x.1) (all_typed (map step_of (drop (i + 1) xs)))
    (rw (step_at (O × Seen) step_of xs i x lt is) at h)).0

pub narrow_at : (O : Type 0) (w : ℕ) (xs : List (O × Node)) (i : ℕ) (x : O × Node) → i < length xs → x ≡ get_or xs i x →
    AllNarrow w (map step_of (drop i xs)) → width_of (node_term x.1) ≤ w
narrow_at O w xs i x lt is h = (rw (step_at (O × Seen) step_of xs i x lt is) at h).0

-- a chain of tests has one bit
pub width-compared : (e : Term) (ss : List (Comparison × Seen)) → 1 ≤ width_compared e ss
    → width_of (chain_term compare e ss) ≡ 1
width-compared e [] h = absurd (omega arith)
width-compared e (s ∷ []) h = refl
width-compared e (s ∷ (r ∷ rest)) h = width-compared (compare s.0 e s.1.term) (r ∷ rest) (omega arith)

pub width-connected : (e : Term) (ss : List (Connective × Seen)) → IsTrue (has_some ss)
    → width_of (chain_term connect e ss) ≡ 1
width-connected e [] h = (cc)
width-connected e (s ∷ []) h = refl
width-connected e (s ∷ (r ∷ rest)) h = width-connected (connect s.0 e s.1.term) (r ∷ rest) refl

pub one_tested : {O : Type 0} (w : ℕ) (ss : List (O × Seen)) → IsTrue (has_some ss) → tested_width w ss ≡ 1
one_tested w [] h = (cc)
one_tested w (s ∷ []) h = refl
one_tested w (s ∷ (r ∷ rest)) h = one_tested 1 (r ∷ rest) refl

pub some_compared : (e : Term) (ss : List (Comparison × Seen)) → 1 ≤ width_compared e ss → IsTrue (has_some ss)
some_compared e [] h = absurd (omega arith)
some_compared e (s ∷ rest) h = refl

pub first_compared : (e : Term) (ss : List (Comparison × Seen)) → 1 ≤ width_compared e ss
    → width_of e ≤ width_compared e ss
first_compared e [] h = absurd (omega arith)
first_compared e (s ∷ rest) h = omega arith

-- a shift has the width of its first operand, and parts have the sum of theirs
pub width-shifted : (e : Term) (ss : List (Shift × Seen)) → width_of (chain_term shift e ss) ≡ width_of e
width-shifted e [] = refl
width-shifted e (s ∷ rest) = width-shifted (shift s.0 e s.1.term) rest

pub width-joined : (e : Term) (parts : List Seen) → width_of (concatenation_term e parts) ≡ total_of (width_of e) parts
width-joined e [] = refl
width-joined e (part ∷ rest) = width-joined (concat e part.term) rest

pub total_above : (w : ℕ) (parts : List Seen) → w ≤ total_of w parts
total_above w [] = omega arith
total_above w (part ∷ rest) = omega (arith, total_above (w + width_of part.term) rest)

-- no operand of a sum is wider than the sum
pub narrow_sums : (e : Term) (ss : List (Arithmetic × Seen)) (w : ℕ) → width_of (chain_term combine e ss) ≤ w
    → (width_of e ≤ w) × AllNarrow w ss
narrow_sums e [] w h = (h, tt)
narrow_sums e (s ∷ rest) w h =
    let r = narrow_sums (combine s.0 e s.1.term) rest w h in (omega (arith, r.0), (omega (arith, r.0), r.1))

-- the values of chains
pub value-sums : (t : Samples) (k w : ℕ) (e : Term) (ss : List (Arithmetic × Seen)) →
    value_of t (chain_term combine e ss) k w ≡ sums_from t k w (value_of t e k w) ss
value-sums t k w e [] = refl
value-sums t k w e (s ∷ rest) = value-sums t k w (combine s.0 e s.1.term) rest

pub value-shifts : (t : Samples) (k w : ℕ) (e : Term) (ss : List (Shift × Seen)) →
    value_of t (chain_term shift e ss) k w ≡ shifts_from t k w (value_of t e k w) ss
value-shifts t k w e [] = refl
value-shifts t k w e (s ∷ rest) = value-shifts t k w (shift s.0 e s.1.term) rest

value-compared : (t : Samples) (k w : ℕ) (e : Term) (o : Comparison) (d : Term) (ss : List (Comparison × Seen)) →
    value_of t (chain_term compare (compare o e d) ss) k w ≡ compares_from t k 1 (value_of t (compare o e d) k 1) ss
value-compared t k w e o d [] = refl
value-compared t k w e o d (s ∷ rest) = value-compared t k w (compare o e d) s.0 s.1.term rest

pub value-comparisons : (t : Samples) (k w : ℕ) (e : Term) (ss : List (Comparison × Seen)) (m : ℕ)
    → m ≡ width_compared e ss → 1 ≤ m →
    value_of t (chain_term compare e ss) k w ≡ compares_from t k m (value_of t e k m) ss
value-comparisons t k w e [] m is some = absurd (omega arith)
value-comparisons t k w e (s ∷ rest) m is some =
    let larger : max m (width_of s.1.term) ≡ m = omega arith in
    rw (larger, is) (value-compared t k w e s.0 s.1.term rest)

value-connected : (t : Samples) (k w : ℕ) (e : Term) (o : Connective) (d : Term) (ss : List (Connective × Seen)) →
    value_of t (chain_term connect (connect o e d) ss) k w ≡ connects_from t k (value_of t (connect o e d) k 1) ss
value-connected t k w e o d [] = refl
value-connected t k w e o d (s ∷ rest) = value-connected t k w (connect o e d) s.0 s.1.term rest

pub value-connections : (t : Samples) (k w : ℕ) (e : Term) (ss : List (Connective × Seen)) → IsTrue (has_some ss) →
    value_of t (chain_term connect e ss) k w ≡ connects_from t k (value_of t e k (width_of e)) ss
value-connections t k w e [] some = (cc)
value-connections t k w e (s ∷ rest) some = value-connected t k w e s.0 s.1.term rest

value-parts : (t : Samples) (k w : ℕ) (e d : Term) (parts : List Seen) →
    value_of t (concatenation_term (concat e d) parts) k w
    ≡ concats_from t k (value_of t (concat e d) k (width_of (concat e d))) parts
value-parts t k w e d [] = refl
value-parts t k w e d (part ∷ rest) = value-parts t k w (concat e d) part.term rest

pub value-joined : (t : Samples) (k w : ℕ) (e : Term) (parts : List Seen) → IsTrue (has_part parts) →
    value_of t (concatenation_term e parts) k w ≡ concats_from t k (value_of t e k (width_of e)) parts
value-joined t k w e [] some = (cc)
value-joined t k w e (part ∷ rest) some = value-parts t k w e part.term rest
