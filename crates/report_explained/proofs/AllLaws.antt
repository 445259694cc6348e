-- What each element of a list has, or each of two lists in step.
use Rattle.std.proofs.Common.{◌++◌, ◌<◌, ℕ, zero, suc, Bool, true, false, List, [], ◌∷◌, length, take, map, get_or}
use Rattle.std.proofs.Common.{arith}
use Rattle.std.specs.Prelude.{filter, if◌then◌else◌}
use Rattle.std.specs.List.{AllByRecursion, AllZip}

pub all_append : {X : Type 0} (P : X → Type 0) (xs ys : List X) → AllByRecursion P xs → AllByRecursion P ys
    → AllByRecursion P (xs ++ ys)
all_append P [] ys p q = q
all_append P (x ∷ xs) ys p q = (p.0, all_append P xs ys p.1 q)

pub all_take : {X : Type 0} (P : X → Type 0) (n : ℕ) (xs : List X) → AllByRecursion P xs → AllByRecursion P (take n xs)
all_take P zero [] p = tt
all_take P (suc n) [] p = tt
all_take P zero (x ∷ xs) p = tt
all_take P (suc n) (x ∷ xs) p = (p.0, all_take P n xs p.1)

pub all_filter : {X : Type 0} (P : X → Type 0) (test : X → Bool) (xs : List X) → AllByRecursion P xs
    → AllByRecursion P (filter test xs)
all_filter P test [] p = tt
all_filter {X} P test (x ∷ xs) p = go (test x) (all_filter P test xs p.1)
  where
    go : (b : Bool) → AllByRecursion P (filter test xs)
        → AllByRecursion P (if b then x ∷ filter test xs else filter test xs)
    go true rest = (p.0, rest)
    go false rest = rest

pub all_map : {X Y : Type 0} (P : Y → Type 0) (f : X → Y) (xs : List X) → AllByRecursion (λ x. P (f x)) xs
    → AllByRecursion P (map f xs)
all_map P f [] p = tt
all_map P f (x ∷ xs) p = (p.0, all_map P f xs p.1)

pub all_so : {X : Type 0} (P Q : X → Type 0) → ((x : X) → P x → Q x) → (xs : List X) → AllByRecursion P xs
    → AllByRecursion Q xs
all_so P Q so [] p = tt
all_so P Q so (x ∷ xs) p = (so x p.0, all_so P Q so xs p.1)

pub all_at : {X : Type 0} (P : X → Type 0) (xs : List X) (i : ℕ) (d : X) → AllByRecursion P xs → i < length xs
    → P (get_or xs i d)
all_at P [] i d p below = absurd (omega (arith, below))
all_at P (x ∷ xs) zero d p below = p.0
all_at P (x ∷ xs) (suc i) d p below = all_at P xs i d p.1 (omega (arith, below))

-- lists in step, of which the second is looked at by a view
pub zip_mapped : {A B C : Type 0} (P : A → C → Type 0) (f : B → C) (xs : List A) (ys : List B)
    → AllZip (λ x y. P x (f y)) xs ys → AllZip P xs (map f ys)
zip_mapped P f [] [] h = tt
zip_mapped P f [] (y ∷ ys) h = elim h [ ]
zip_mapped P f (x ∷ xs) [] h = elim h [ ]
zip_mapped P f (x ∷ xs) (y ∷ ys) h = (h.0, zip_mapped P f xs ys h.1)

-- lists in step, both looked at by a view
pub zip_viewed : {A B C D : Type 0} (P : C → D → Type 0) (f : A → C) (g : B → D) (xs : List A) (ys : List B)
    → AllZip (λ x y. P (f x) (g y)) xs ys → AllZip P (map f xs) (map g ys)
zip_viewed P f g [] [] h = tt
zip_viewed P f g [] (y ∷ ys) h = elim h [ ]
zip_viewed P f g (x ∷ xs) [] h = elim h [ ]
zip_viewed P f g (x ∷ xs) (y ∷ ys) h = (h.0, zip_viewed P f g xs ys h.1)
