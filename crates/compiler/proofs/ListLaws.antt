-- Lists by their places.
use Rattle.std.proofs.Common.{◌≡◌, ◌∙◌, ℕ, zero, suc, ◌+◌, List, [], ◌∷◌, ◌++◌, length, map, Some, slice_get, refl, ap}
use Rattle.std.proofs.Common.{sym, subst, arith}
use Rattle.std.specs.Option.{option_map}
use Rattle.std.specs.Prelude.{slice_index, unwrap_or, replicate}
use Rattle.std.specs.List.{AllByRecursion, AllZip}
use Rattle.std.proofs.lemmas.Option.{slice_get_within, get_or_from_slice_get, slice_get-map}

pub some-one : {A : Type 0} (a b : A) → Some a ≡ Some b → a ≡ b
some-one a b e = ap (λ o. unwrap_or o a) e

pub zip-at : {A B : Type 0} (R : A → B → Type 0) (xs : List A) (ys : List B) → AllZip R xs ys → (i : ℕ) (x : A)
    → slice_get xs i ≡ Some x →
    (y : B) × (slice_get ys i ≡ Some y) × R x y
zip-at R [] ys h i x is = absurd (omega (arith, slice_get_within [] i x is))
zip-at R (z ∷ xs) [] h i x is = absurd h
zip-at R (z ∷ xs) (y ∷ ys) h zero x is = (y, refl, subst (λ w. R w y) (some-one z x is) h.0)
zip-at R (z ∷ xs) (y ∷ ys) h (suc i) x is = zip-at R xs ys h.1 i x is

pub zip-long : {A B : Type 0} (R : A → B → Type 0) (xs : List A) (ys : List B) → AllZip R xs ys → length ys ≡ length xs
zip-long R [] [] h = refl
zip-long R [] (y ∷ ys) h = absurd h
zip-long R (x ∷ xs) [] h = absurd h
zip-long R (x ∷ xs) (y ∷ ys) h = ap suc (zip-long R xs ys h.1)

pub all-at : {A : Type 0} (P : A → Type 0) (xs : List A) → AllByRecursion P xs → (i : ℕ) (x : A)
    → slice_get xs i ≡ Some x → P x
all-at P [] h i x is = absurd (omega (arith, slice_get_within [] i x is))
all-at P (z ∷ xs) h zero x is = subst P (some-one z x is) h.0
all-at P (z ∷ xs) h (suc i) x is = all-at P xs h.1 i x is

pub all-by-places : {A : Type 0} (P : A → Type 0) (xs : List A) → ((i : ℕ) (x : A) → slice_get xs i ≡ Some x → P x)
    → AllByRecursion P xs
all-by-places P [] each = tt
all-by-places P (x ∷ xs) each = (each 0 x refl, all-by-places P xs (λ i y is. each (suc i) y is))

pub all-more : {A : Type 0} (P Q : A → Type 0) (xs : List A) → ((x : A) → P x → Q x) → AllByRecursion P xs
    → AllByRecursion Q xs
all-more P Q [] go h = tt
all-more P Q (x ∷ xs) go h = (go x h.0, all-more P Q xs go h.1)

pub map-twice : {A B C : Type 0} (g : B → C) (f : A → B) (xs : List A) → map g (map f xs) ≡ map (λ x. g (f x)) xs
map-twice g f [] = refl
map-twice g f (x ∷ xs) = ap (λ ys. g (f x) ∷ ys) (map-twice g f xs)

pub map-alike : {A B : Type 0} (f g : A → B) (xs : List A) → ((x : A) → f x ≡ g x) → map f xs ≡ map g xs
map-alike f g [] same = refl
map-alike f g (x ∷ xs) same = ap (λ y. y ∷ map f xs) (same x) ∙ ap (λ ys. g x ∷ ys) (map-alike f g xs same)

pub all-zeros : {A : Type 0} (f : A → ℕ) (xs : List A) → ((x : A) → f x ≡ 0) → map f xs ≡ replicate (length xs) 0
all-zeros f [] zeros = refl
all-zeros f (x ∷ xs) zeros = ap (λ y. y ∷ map f xs) (zeros x) ∙ ap (λ ys. 0 ∷ ys) (all-zeros f xs zeros)

-- what stands in a row after the constant
pub in-first : {A : Type 0} (f : A → ℕ) (xs : List A) (ys : List ℕ) (i : ℕ) (x : A) → slice_get xs i ≡ Some x →
    slice_get (map f xs ++ ys) i ≡ Some (f x)
in-first f [] ys i x is = absurd (omega (arith, slice_get_within [] i x is))
in-first f (z ∷ xs) ys zero x is = ap (λ w. Some (f w)) (some-one z x is)
in-first f (z ∷ xs) ys (suc i) x is = in-first f xs ys i x is

pub in-second : {A B : Type 0} (f : A → ℕ) (xs : List B) (g : B → ℕ) (ys : List A) (i : ℕ) (y : A)
    → slice_get ys i ≡ Some y →
    slice_get (map g xs ++ map f ys) (length xs + i) ≡ Some (f y)
in-second f [] g ys i y is =
    let e : 0 + i ≡ i = omega arith in
    ap (λ j. slice_get (map f ys) j) e ∙ slice_get-map f ys i ∙ ap (option_map f) is
in-second f (x ∷ xs) g ys i y is =
    let e : suc (length xs) + i ≡ suc (length xs + i) = omega arith in
    ap (λ j. slice_get (g x ∷ (map g xs ++ map f ys)) j) e ∙ in-second f xs g ys i y is

-- the slot of a signal and of a counter
pub signal-slot : {A : Type 0} (f : A → ℕ) (xs : List A) (ys : List ℕ) (i : ℕ) (x : A) → slice_get xs i ≡ Some x →
    slice_get (1 ∷ (map f xs ++ ys)) (1 + i) ≡ Some (f x)
signal-slot f xs ys i x is =
    let e : suc i ≡ 1 + i = omega arith in ap (λ j. slice_get (1 ∷ (map f xs ++ ys)) j) (sym e)
    ∙ in-first f xs ys i x is

pub counter-slot : {A B : Type 0} (f : A → ℕ) (xs : List B) (g : B → ℕ) (ys : List A) (i : ℕ) (y : A)
    → slice_get ys i ≡ Some y →
    slice_get (1 ∷ (map g xs ++ map f ys)) (1 + (length xs + i)) ≡ Some (f y)
counter-slot f xs g ys i y is =
    let e : suc (length xs + i) ≡ 1 + (length xs + i) = omega arith in
    ap (λ j. slice_get (1 ∷ (map g xs ++ map f ys)) j) (sym e) ∙ in-second f xs g ys i y is

-- the same by index
pub by-index : (xs : List ℕ) (i v : ℕ) → slice_get xs i ≡ Some v → slice_index xs i ≡ v
by-index xs i v is = get_or_from_slice_get xs i v 0 is
