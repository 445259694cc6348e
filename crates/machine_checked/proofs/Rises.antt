-- Lists whose ticks rise.
use Rattle.std.proofs.Common.{◌≡◌, ℕ, ◌+◌, ◌<◌, ◌≤◌, List, [], ◌∷◌, ◌++◌, length, arith}
use Rattle.machine_checked.specs.Bounds.{RisesBetween}

pub Rises-within : {A : Type 0} (at : A → ℕ) (P : A → Type 0) (low high : ℕ) (xs : List A)
    → RisesBetween at P low high xs
    → low ≤ high
Rises-within at P low high [] h = h
Rises-within at P low high (x ∷ xs) h = omega (arith, h.0, Rises-within at P (at x + 1) high xs h.2)

pub Rises-low : {A : Type 0} (at : A → ℕ) (P : A → Type 0) (lower low high : ℕ) (xs : List A) → lower ≤ low
    → RisesBetween at P low high xs → RisesBetween at P lower high xs
Rises-low at P lower low high [] le h = omega arith
Rises-low at P lower low high (x ∷ xs) le h = (omega (arith, h.0), h.1, h.2)

pub Rises-each : {A : Type 0} (at : A → ℕ) (P Q : A → Type 0) (low high : ℕ) (xs : List A)
    → ((x : A) → at x < high → P x → Q x) → RisesBetween at P low high xs → RisesBetween at Q low high xs
Rises-each at P Q low high [] each h = h
Rises-each at P Q low high (x ∷ xs) each h = (
  h.0,
  each x (omega (arith, Rises-within at P (at x + 1) high xs h.2)) h.1,
  Rises-each at P Q (at x + 1) high xs each h.2,
)

pub Rises-push : {A : Type 0} (at : A → ℕ) (P : A → Type 0) (low high : ℕ) (xs : List A) (x : A) → at x ≡ high → P x
    → RisesBetween at P low high xs → RisesBetween at P low (high + 1) (xs ++ x ∷ [])
Rises-push at P low high [] x e here h = (omega arith, here, omega arith)
Rises-push at P low high (y ∷ xs) x e here h = (h.0, h.1, Rises-push at P (at y + 1) high xs x e here h.2)

Rises-length : {A : Type 0} (at : A → ℕ) (P : A → Type 0) (low high : ℕ) (xs : List A) → RisesBetween at P low high xs
    → low + length xs ≤ high
Rises-length at P low high [] h = omega arith
Rises-length at P low high (x ∷ xs) h = omega (arith, h.0, Rises-length at P (at x + 1) high xs h.2)

-- so many at most, where none is below the floor
pub Rises-count : {A : Type 0} (at : A → ℕ) (P : A → Type 0) (floor low high : ℕ) (xs : List A) → floor ≤ high
    → ((x : A) → P x → floor ≤ at x) → RisesBetween at P low high xs → floor + length xs ≤ high
Rises-count at P floor low high [] le above h = omega arith
Rises-count at P floor low high (x ∷ xs) le above h =
    omega (arith, above x h.1, Rises-length at P (at x + 1) high xs h.2)

pub Rises-high : {A : Type 0} (at : A → ℕ) (P : A → Type 0) (low high higher : ℕ) (xs : List A) → high ≤ higher
    → RisesBetween at P low high xs → RisesBetween at P low higher xs
Rises-high at P low high higher [] le h = omega arith
Rises-high at P low high higher (x ∷ xs) le h = (h.0, h.1, Rises-high at P (at x + 1) high higher xs le h.2)
