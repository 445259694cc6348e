-- What holds of each element of a list.
use Rattle.std.proofs.Common.{ℕ, ◌≤◌, List, [], ◌∷◌, ◌++◌, arith}
use Rattle.std.specs.List.{AllByRecursion, flat_map}
use Rattle.compiler.specs.Samples.{largest}

module _ {A : Type 0} (P : A → Type 0) where
  pub all-front : (xs ys : List A) → AllByRecursion P (xs ++ ys) → AllByRecursion P xs
  all-front [] ys h = tt
  all-front (x ∷ xs) ys h = (h.0, all-front xs ys h.1)

  pub all-back : (xs ys : List A) → AllByRecursion P (xs ++ ys) → AllByRecursion P ys
  all-back [] ys h = h
  all-back (x ∷ xs) ys h = all-back xs ys h.1

  pub all-flat :
      {B : Type 0} (g : B → List A) (bs : List B) → AllByRecursion P (flat_map g bs) →
      AllByRecursion (λ b. AllByRecursion P (g b)) bs
  all-flat g [] h = tt
  all-flat g (b ∷ bs) h =
      (all-front (g b) (flat_map g bs) h, all-flat g bs (all-back (g b) (flat_map g bs) h))

  pub all-under :
      (f : A → ℕ) (n : ℕ) (xs : List A) → largest f xs ≤ n → ((x : A) → f x ≤ n → P x) →
      AllByRecursion P xs
  all-under f n [] le go = tt
  all-under f n (x ∷ xs) le go =
      (go x (omega (arith, le)), all-under f n xs (omega (arith, le)) go)
