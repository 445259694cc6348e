-- Samples, list by list.
use Rattle.std.proofs.Common.{◌≡◌, ◌∙◌, ◌+◌, ◌<◌, ◌++◌, ℕ, zero, suc, List, [], ◌∷◌, Some, length}
use Rattle.std.proofs.Common.{refl, sym, subst, arith, ◌≤◌, ◌^◌, ◌%◌, Option, None, pow_pos}
use Rattle.std.proofs.Math.Nat.{mod-lt}
use Rattle.std.proofs.Math.Pow.{pow_mono}
use Rattle.std.specs.Prelude.{slice_get, slice_set}
use Rattle.vcd_reader.specs.Numbers.{bits_value}
use Rattle.vcd_reader.specs.Values.{value_or_zero, value_at, digits_value, last_digits, changes_before}
use Rattle.vcd_reader.specs.Variables.{size_of, code_number}
use Rattle.vcd_reader.specs.Dump.{Contents}
use Rattle.vcd_reader.proofs.ValueLaws.{digits}
use Rattle.cycle_window.specs.declared.samples.Samples.{Samples}
use Rattle.cycle_window.specs.declared.values.Values.{Values}
use Rattle.cycle_window.specs.declared.values.Values.TheVariants.{Bytes, Words, Wide}
use Rattle.cycle_window.specs.Ticks.{sample}
use Rattle.cycle_window.specs.Values.{bits_in}

-- the samples at a place
pub there : (all : List Samples) (i : ℕ) → i < length all → (s : Samples) × (slice_get all i ≡ Some s)
there [] i lt = absurd (omega (arith, lt))
there (x ∷ xs) zero lt = (x, refl)
there (x ∷ xs) (suc i) lt = there xs i (omega (arith, lt))

-- another one than what is put at a place
pub get-other : (xs : List Samples) (i k : ℕ) (y : Samples) → i < k
    → slice_get (slice_set xs i y) k ≡ slice_get xs k
get-other [] i k y lt = refl
get-other (x ∷ xs) zero zero y lt = absurd (omega (arith, lt))
get-other (x ∷ xs) zero (suc k) y lt = refl
get-other (x ∷ xs) (suc i) zero y lt = absurd (omega (arith, lt))
get-other (x ∷ xs) (suc i) (suc k) y lt = get-other xs i k y (omega (arith, lt))

-- what holds of those before a place, and of what is put there
pub first-more : (Q : ℕ → Samples → Type 0) (xs : List Samples) (n : ℕ) (y : Samples)
    → ((i : ℕ) (x : Samples) → i < n → slice_get xs i ≡ Some x → Q i x) → Q n y
    → (i : ℕ) (x : Samples) → i < n + 1 → slice_get (slice_set xs n y) i ≡ Some x → Q i x
first-more Q [] n y h k i x lt e = absurd cc
first-more Q (z ∷ xs) zero y h k zero x lt e = let same : y ≡ x = cc in subst (Q 0) same k
first-more Q (z ∷ xs) zero y h k (suc i) x lt e = absurd (omega (arith, lt))
first-more Q (z ∷ xs) (suc n) y h k zero x lt e = h 0 x (omega arith) e
first-more Q (z ∷ xs) (suc n) y h k (suc i) x lt e =
    first-more (λ m. Q (suc m)) xs n y (λ m v less at. h (suc m) v (omega (arith, less)) at) k i x
    (omega (arith, lt)) e

some-is : (x y : Samples) → Some x ≡ Some y → x ≡ y
some-is x y h = cc

-- what those before a place became, and what one more did
pub to-more : (R : ℕ → Samples → Samples → Type 0) (old now : List Samples) (n : ℕ) (x y : Samples)
    → slice_get old n ≡ Some x → R n x y
    → ((i : ℕ) (s t : Samples) → i < n → slice_get old i ≡ Some s → slice_get now i ≡ Some t
    → R i s t)
    → (i : ℕ) (s t : Samples) → i < n + 1 → slice_get old i ≡ Some s
    → slice_get (slice_set now n y) i ≡ Some t → R i s t
to-more R old now n x y at one h i s t lt was is =
    first-more (λ k z. (u : Samples) → slice_get old k ≡ Some u → R k u z) now n y
    (λ k z less here u before. h k u z less before here)
    (λ u before. subst (λ (v : Samples). R n v y) (some-is x u (sym at ∙ before)) one) i t lt is s was

-- a list with one more
pub each-more : (Q : ℕ → Samples → Type 0) (xs : List Samples) (y : Samples)
    → ((n : ℕ) (x : Samples) → slice_get xs n ≡ Some x → Q n x) → Q (length xs) y
    → (n : ℕ) (x : Samples) → slice_get (xs ++ y ∷ []) n ≡ Some x → Q n x
each-more Q [] y h k zero x e = let same : y ≡ x = cc in subst (Q 0) same k
each-more Q [] y h k (suc n) x e = absurd cc
each-more Q (z ∷ xs) y h k zero x e = h 0 x e
each-more Q (z ∷ xs) y h k (suc n) x e =
    each-more (λ m. Q (suc m)) xs y (λ m v at. h (suc m) v at) k n x e

-- the value of a variable fits it
value-fits : (size : ℕ) (o : Option (List ℕ)) → size ≤ 128 → value_or_zero size o < 2 ^ size
value-fits size None le = pow_pos size
value-fits size (Some ds) le =
    let is : digits_value size ds ≡ bits_value ds % 2 ^ size = digits size ds le in
    let cut : bits_value ds % 2 ^ size < 2 ^ size = mod-lt (bits_value ds) (pow_pos size) in
    omega arith

pub sample-fits : (c : Contents) (k v : ℕ) → size_of c.variables v ≤ 128
    → sample c k v < 2 ^ size_of c.variables v
unfolding value_at
sample-fits c k v le =
    value-fits (size_of c.variables v)
    (last_digits (code_number c.variables v) (changes_before c.steps k)) le

few-bits : (vs : Values) → bits_in vs ≤ 128
few-bits (Bytes v) = omega arith
few-bits (Words v) = omega arith
few-bits (Wide v) = omega arith

-- and what has room for its bits
pub sample-kept : (c : Contents) (k v : ℕ) (vs : Values) → size_of c.variables v ≤ bits_in vs
    → sample c k v < 2 ^ bits_in vs
sample-kept c k v vs le =
    let few = few-bits vs in
    let own = sample-fits c k v (omega (arith, le, few)) in
    let more = pow_mono le in
    omega (arith, own, more)
