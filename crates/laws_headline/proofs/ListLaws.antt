-- Lists that are read and written at places.
use Rattle.std.proofs.Common.{
  ◌≡◌,
  ℕ,
  zero,
  suc,
  List,
  [],
  ◌∷◌,
  ◌++◌,
  length,
  map,
  Some,
  refl,
  ap,
  arith,
}
use Rattle.std.specs.Prelude.{slice_get, slice_set}

-- what stands in the midst of a list
pub mid-get : {A : Type 0} (before : List A) (x : A) (rest : List A) (i : ℕ) → length before ≡ i
    → slice_get (before ++ x ∷ rest) i ≡ Some x
mid-get [] x rest zero is = refl
mid-get [] x rest (suc i) is = absurd (omega (arith, is))
mid-get (y ∷ before) x rest zero is = absurd (omega (arith, is))
mid-get (y ∷ before) x rest (suc i) is = mid-get before x rest i (omega (arith, is))

pub mid-set : {A : Type 0} (before : List A) (x y : A) (rest : List A) (i : ℕ) → length before ≡ i
    → slice_set (before ++ x ∷ rest) i y ≡ before ++ y ∷ rest
mid-set [] x y rest zero is = refl
mid-set [] x y rest (suc i) is = absurd (omega (arith, is))
mid-set (z ∷ before) x y rest zero is = absurd (omega (arith, is))
mid-set (z ∷ before) x y rest (suc i) is =
    ap (λ zs. z ∷ zs) (mid-set before x y rest i (omega (arith, is)))

-- what is written is read there, and what stands elsewhere is kept
pub written : {A : Type 0} (xs : List A) (i : ℕ) (x y : A) → slice_get xs i ≡ Some x
    → slice_get (slice_set xs i y) i ≡ Some y
written [] i x y is = absurd cc
written (z ∷ xs) zero x y is = refl
written (z ∷ xs) (suc i) x y is = written xs i x y is

pub unwritten : {A : Type 0} (xs : List A) (at i : ℕ) (y : A) → (at ≡ i → ⊥)
    → slice_get (slice_set xs at y) i ≡ slice_get xs i
unwritten [] at i y other = refl
unwritten (z ∷ xs) zero zero y other = absurd (other refl)
unwritten (z ∷ xs) zero (suc i) y other = refl
unwritten (z ∷ xs) (suc at) zero y other = refl
unwritten (z ∷ xs) (suc at) (suc i) y other = unwritten xs at i y (λ is. other (ap suc is))

-- of two writes at one place the second stays
pub rewritten : {A : Type 0} (xs : List A) (i : ℕ) (x y : A)
    → slice_set (slice_set xs i x) i y ≡ slice_set xs i y
rewritten [] i x y = refl
rewritten (z ∷ xs) zero x y = refl
rewritten (z ∷ xs) (suc i) x y = ap (λ zs. z ∷ zs) (rewritten xs i x y)

-- what stands in a mapped list comes from what stands there
pub record Mapped {A B : Type 0} (f : A → B) (xs : List A) (i : ℕ) (y : B) : Type 0 where
  pub of : A
  pub is : slice_get xs i ≡ Some of
  pub same : f of ≡ y

pub mapped : {A B : Type 0} (f : A → B) (xs : List A) (i : ℕ) (y : B)
    → slice_get (map f xs) i ≡ Some y → Mapped f xs i y
mapped f [] i y is = absurd cc
mapped f (x ∷ xs) zero y is =
    let same : f x ≡ y = cc in record { of = x; is = refl; same = same }
mapped f (x ∷ xs) (suc i) y is =
    let r = mapped f xs i y is in record { of = r.of; is = r.is; same = r.same }
