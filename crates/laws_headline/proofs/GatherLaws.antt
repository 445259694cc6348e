-- What done lists come to where a round ends.
use Rattle.std.proofs.Common.{
  ◌≡◌,
  ℕ,
  zero,
  suc,
  ◌+◌,
  ◌<◌,
  ◌≤◌,
  ◌⊎◌,
  inl,
  inr,
  List,
  [],
  ◌∷◌,
  length,
  map,
  Some,
  Bool,
  true,
  false,
  cond,
  refl,
  sym,
  ap,
  ◌∙◌,
  arith,
}
use Rattle.std.specs.Prelude.{slice_get, ◌==◌, nat_lt, replicate}
use Rattle.std.specs.List.{list_all, range_with_len}
use Rattle.std.proofs.lemmas.Bool.{cases_lt}
use Rattle.workers_core.specs.States.{
  WorkerState,
  is_free,
  is_idle,
  put,
  put_each,
  put_done,
  emptied,
}
use Rattle.laws_headline.specs.Steps.{owned_from}
use Rattle.laws_headline.specs.Rounds.{with_done}
use Rattle.laws_headline.proofs.OwnedLaws.{front, fronted}

pub put-before : (i x : ℕ) (xs : List ℕ) → i < x → put i (x ∷ xs) ≡ i ∷ x ∷ xs
put-before i x xs lt =
    let yes : nat_lt i x ≡ true = grind (arith, lt) in
    ap (λ (b : Bool). cond b (i ∷ x ∷ xs) (x ∷ put i xs)) yes

pub put-after : (i x : ℕ) (xs : List ℕ) → x ≤ i → put i (x ∷ xs) ≡ x ∷ put i xs
put-after i x xs le =
    let no : nat_lt i x ≡ false = grind (arith, le) in
    ap (λ (b : Bool). cond b (i ∷ x ∷ xs) (x ∷ put i xs)) no

-- two numbers that both go in front
both-front : (i j : ℕ) (xs : List ℕ) → put i xs ≡ i ∷ xs → put j xs ≡ j ∷ xs →
    (i < j) ⊎ (j ≤ i) → (j < i) ⊎ (i ≤ j) → put i (j ∷ xs) ≡ put j (i ∷ xs)
both-front i j xs p q (inl lt) o =
    put-before i j xs lt ∙ ap (λ (ys : List ℕ). i ∷ ys) (sym q)
    ∙ sym (put-after j i xs (omega (arith, lt)))
both-front i j xs p q (inr le) (inl lt) =
    put-after i j xs le ∙ ap (λ (ys : List ℕ). j ∷ ys) p ∙ sym (put-before j i xs lt)
both-front i j xs p q (inr le) (inr ge) =
    let same : i ≡ j = omega (arith, le, ge) in
    put-after i j xs le ∙ ap (λ (ys : List ℕ). j ∷ ys) p
    ∙ ap (λ (n : ℕ). j ∷ n ∷ xs) same ∙ ap (λ (n : ℕ). n ∷ j ∷ xs) (sym same)
    ∙ ap (λ (ys : List ℕ). i ∷ ys) (sym q) ∙ sym (put-after j i xs ge)

-- one goes in front, the other doesn't
front-apart : (i j x : ℕ) (xs : List ℕ) → i < x → x ≤ j
    → put i (put j (x ∷ xs)) ≡ put j (put i (x ∷ xs))
front-apart i j x xs lt le =
    ap (put i) (put-after j x xs le) ∙ put-before i x (put j xs) lt
    ∙ ap (λ (ys : List ℕ). i ∷ ys) (sym (put-after j x xs le))
    ∙ sym (put-after j i (x ∷ xs) (omega (arith, lt, le)))
    ∙ ap (put j) (sym (put-before i x xs lt))

swap-step : (i j x : ℕ) (xs : List ℕ) → (i < x) ⊎ (x ≤ i) → (j < x) ⊎ (x ≤ j) →
    put i (put j xs) ≡ put j (put i xs) → put i (put j (x ∷ xs)) ≡ put j (put i (x ∷ xs))
swap-step i j x xs (inl a) (inl b) rest =
    ap (put i) (put-before j x xs b)
    ∙ both-front i j (x ∷ xs) (put-before i x xs a) (put-before j x xs b) (cases_lt i j)
    (cases_lt j i)
    ∙ ap (put j) (sym (put-before i x xs a))
swap-step i j x xs (inl a) (inr b) rest = front-apart i j x xs a b
swap-step i j x xs (inr a) (inl b) rest = sym (front-apart j i x xs b a)
swap-step i j x xs (inr a) (inr b) rest =
    ap (put i) (put-after j x xs b) ∙ put-after i x (put j xs) a
    ∙ ap (λ (ys : List ℕ). x ∷ ys) rest ∙ sym (put-after j x (put i xs) b)
    ∙ ap (put j) (sym (put-after i x xs a))

-- two numbers may be put in either order
put-swap : (i j : ℕ) (xs : List ℕ) → put i (put j xs) ≡ put j (put i xs)
put-swap i j [] = both-front i j [] refl refl (cases_lt i j) (cases_lt j i)
put-swap i j (x ∷ xs) = swap-step i j x xs (cases_lt i x) (cases_lt j x) (put-swap i j xs)

puts-swap : (is : List ℕ) (j : ℕ) (xs : List ℕ) → put_each is (put j xs) ≡ put j (put_each is xs)
puts-swap [] j xs = refl
puts-swap (i ∷ is) j xs = ap (put_each is) (put-swap i j xs) ∙ puts-swap is j (put i xs)

put-first : (a n : ℕ) → put a (range_with_len (a + 1) n) ≡ a ∷ range_with_len (a + 1) n
put-first a zero = refl
put-first a (suc n) = put-before a (a + 1) (range_with_len ((a + 1) + 1) n) (omega arith)

puts-range : (a n : ℕ) → put_each (range_with_len a n) [] ≡ range_with_len a n
puts-range a zero = refl
puts-range a (suc n) =
    puts-swap (range_with_len (a + 1) n) a [] ∙ ap (put a) (puts-range (a + 1) n) ∙ put-first a n

-- so many workers from a on, with these done lists
abbrev pub crew : (ℕ → List ℕ) → ℕ → ℕ → List WorkerState
crew E a n = map with_done (map E (range_with_len a n))

-- x is in front of v's done list, and v is none of them
done-out : (E : ℕ → List ℕ) (v x a n : ℕ) (xs : List ℕ) → v < a
    → put_done (crew (fronted E v x) a n) xs ≡ put_done (crew E a n) xs
done-out E v x a zero xs lt = refl
done-out E v x a (suc n) xs lt =
    let no : (v == a) ≡ false = grind (arith, lt) in
    ap (λ (b : Bool). put_done (crew (fronted E v x) (a + 1) n) (put_each (front b x (E a)) xs)) no
    ∙ done-out E v x (a + 1) n (put_each (E a) xs) (omega (arith, lt))

done-step : (E : ℕ → List ℕ) (v x a n : ℕ) (xs : List ℕ) (b : Bool) → (v == a) ≡ b →
    a ≤ v → v < a + suc n →
    (a + 1 ≤ v → v < (a + 1) + n →
    put_done (crew (fronted E v x) (a + 1) n) (put_each (E a) xs)
    ≡ put_done (crew E (a + 1) n) (put x (put_each (E a) xs))) →
    put_done (crew (fronted E v x) (a + 1) n) (put_each (front b x (E a)) xs)
    ≡ put_done (crew E (a + 1) n) (put_each (E a) (put x xs))
done-step E v x a n xs true is le lt next =
    let here : v ≡ a = grind (arith, is) in
    done-out E v x (a + 1) n (put_each (E a) (put x xs)) (omega (arith, here))
done-step E v x a n xs false is le lt next =
    let other : (v ≡ a → ⊥) = grind (arith, is) in
    next (omega (arith, le, other)) (omega (arith, lt))
    ∙ ap (put_done (crew E (a + 1) n)) (sym (puts-swap (E a) x xs))

-- v is one of them
done-in : (E : ℕ → List ℕ) (v x a n : ℕ) (xs : List ℕ) → a ≤ v → v < a + n
    → put_done (crew (fronted E v x) a n) xs ≡ put_done (crew E a n) (put x xs)
done-in E v x a zero xs le lt = absurd (omega (arith, le, lt))
done-in E v x a (suc n) xs le lt =
    let all : (b : Bool) → (v == a) ≡ b
    → put_done (crew (fronted E v x) (a + 1) n) (put_each (front b x (E a)) xs)
    ≡ put_done (crew E (a + 1) n) (put_each (E a) (put x xs)) = λ b is.
    done-step E v x a n xs b is le lt
    (λ more less. done-in E v x (a + 1) n (put_each (E a) xs) more less) in
    all (v == a) refl

done-none : (a n : ℕ) (xs : List ℕ) → put_done (crew (λ w. []) a n) xs ≡ xs
done-none a zero xs = refl
done-none a (suc n) xs = done-none (a + 1) n xs

done-all : (n : ℕ) (owners : List ℕ) (low : ℕ) (xs : List ℕ)
    → ((i w : ℕ) → slice_get owners i ≡ Some w → w < n)
    → put_done (crew (λ w. owned_from low owners w) 0 n) xs
    ≡ put_each (range_with_len low (length owners)) xs
done-all n [] low xs known = done-none 0 n xs
done-all n (v ∷ owners) low xs known =
    done-in (λ w. owned_from (low + 1) owners w) v low 0 n xs (omega arith)
    (omega (arith, known 0 v refl))
    ∙ done-all n owners (low + 1) (put low xs) (λ i w is. known (suc i) w is)

-- the done lists back, in source order
pub put-all : (n : ℕ) (owners : List ℕ) → ((i w : ℕ) → slice_get owners i ≡ Some w → w < n)
    → put_done (crew (λ w. owned_from 0 owners w) 0 n) [] ≡ range_with_len 0 (length owners)
put-all n owners known = done-all n owners 0 [] known ∙ puts-range 0 (length owners)

pub all-free : (E : ℕ → List ℕ) (a n : ℕ) → list_all is_free (crew E a n) ≡ true
all-free E a zero = refl
all-free E a (suc n) = all-free E (a + 1) n

pub all-idle : (n : ℕ) → list_all is_idle (replicate n (with_done [])) ≡ true
all-idle zero = refl
all-idle (suc n) = all-idle n

pub all-emptied : (E : ℕ → List ℕ) (a n : ℕ)
    → map emptied (crew E a n) ≡ replicate n (with_done [])
all-emptied E a zero = refl
all-emptied E a (suc n) =
    ap (λ (ws : List WorkerState). with_done [] ∷ ws) (all-emptied E (a + 1) n)

pub none-done : (a n : ℕ) → replicate n (with_done []) ≡ crew (λ w. []) a n
none-done a zero = refl
none-done a (suc n) = ap (λ (ws : List WorkerState). with_done [] ∷ ws) (none-done (a + 1) n)
