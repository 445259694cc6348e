-- What is kept of what was sent.
use Rattle.std.proofs.Common.{◌≡◌, ◌⊎◌, inl, inr, ℕ, zero, suc, ◌+◌, ◌<◌, ◌≤◌, ◌==◌, true, false}
use Rattle.std.proofs.Common.{cond, List, [], ◌∷◌, ◌++◌, length, reverse, set, Some, refl, sym, ap}
use Rattle.std.proofs.Common.{◌∙◌, subst, arith}
use Rattle.std.specs.Prelude.{slice_get}
use Rattle.std.specs.Str.{bytes_eq}
use Rattle.std.proofs.lemmas.List.{reverse-append, reverse-reverse}
use Rattle.std.proofs.lemmas.Slice.Eq.{bytes_eq-Decides}
use Rattle.std.proofs.lemmas.Bool.Decides.{same_from_decides}
use Rattle.std.proofs.lemmas.Bool.{cases_eq, eq-eqb, ne_eqb}
use Rattle.verifier.specs.Inference.{Message, ArrivalData, nothing, agreed, mismatch, merge}
use Rattle.verifier.specs.Inference.{arrival_at, entry}
use Rattle.verifier.specs.Arrivals.{arrived, HoldsFrom}
use Rattle.verifier.specs.declared.arrival.Arrival.{Arrival}

reverse_same : (a b : List ℕ) → reverse a ≡ reverse b → a ≡ b
reverse_same a b e = sym (reverse-reverse a) ∙ ap reverse e ∙ reverse-reverse b

-- a test of lists says the same of them turned round
pub bytes_eq-reverse : (a b : List ℕ) → bytes_eq (reverse a) (reverse b) ≡ bytes_eq b a
bytes_eq-reverse a b =
    let there = bytes_eq-Decides (reverse a) (reverse b) in
    let here = bytes_eq-Decides b a in
    same_from_decides _ _ (λ e. sym (reverse_same a b (there.0 e)), λ e. there.1 (ap reverse (sym e))) here

pub reverse-push : (xs : List ℕ) (x : ℕ) → reverse (xs ++ x ∷ []) ≡ x ∷ reverse xs
reverse-push xs x = reverse-append xs (x ∷ [])

pub merge_differs : (ws vs : List ℕ) (a : ArrivalData) → a ≡ agreed vs → bytes_eq ws vs ≡ false → mismatch ≡ merge ws a
merge_differs ws vs a is differs = sym (ap (merge ws) is ∙ ap (λ b. cond b (agreed vs) mismatch) differs)

-- a list with one element changed, and with one more
pub set_same : {A : Type 0} (xs : List A) (i : ℕ) (y z : A) → slice_get (set xs i y) i ≡ Some z → z ≡ y
set_same [] i y z h = cc
set_same (x ∷ xs) zero y z h = cc
set_same (x ∷ xs) (suc i) y z h = set_same xs i y z h

pub set_other : {A : Type 0} (xs : List A) (i j : ℕ) (y : A) → (i ≡ j → ⊥) → slice_get (set xs j y) i ≡ slice_get xs i
set_other [] i j y n = refl
set_other (x ∷ xs) zero zero y n = absurd (n refl)
set_other (x ∷ xs) zero (suc j) y n = refl
set_other (x ∷ xs) (suc i) zero y n = refl
set_other (x ∷ xs) (suc i) (suc j) y n = set_other xs i j y (λ e. n (ap suc e))

pub pushed_at : {A : Type 0} (xs : List A) (y z : A) (i : ℕ) → slice_get (xs ++ y ∷ []) i ≡ Some z
    → (slice_get xs i ≡ Some z) ⊎ ((i ≡ length xs) × (z ≡ y))
pushed_at [] y z zero h = inr (refl, cc)
pushed_at [] y z (suc i) h = cc
pushed_at (x ∷ xs) y z zero h = inl h
pushed_at (x ∷ xs) y z (suc i) h =
    elim (pushed_at xs y z i h) [
      | inl e ↦ inl e
      | inr e ↦ inr (ap suc e.0, e.1)
    ]

-- one list sent
pub sent_holds : (pending : List Arrival) (from to : ℕ) (list : List ℕ) (old new : Arrival) (ms : List Message) →
    slice_get pending to ≡ Some old → arrived new ≡ merge list (arrived old) → from ≤ to → HoldsFrom from pending ms
    → HoldsFrom from (set pending to new) (record { to = to; list = list } ∷ ms)
sent_holds pending from to list old new ms at is above holds k a low h =
    elim (cases_eq k to) [
      | inl same ↦
          let changed : a ≡ new =
          set_same pending to new a (subst (λ (n : ℕ). slice_get (set pending to new) n ≡ Some a) same h) in
          let test : (to == k) ≡ true = eq-eqb to k (sym same) in
          ap arrived changed ∙ is ∙ ap (merge list) (holds to old above at ∙ ap (λ n. arrival_at n ms) (sym same))
          ∙ ap (λ b. cond b (merge list (arrival_at k ms)) (arrival_at k ms)) (sym test)
      | inr other ↦
          let test : (to == k) ≡ false = ne_eqb to k (λ e. other (sym e)) in
          holds k a low (sym (set_other pending k to new other) ∙ h)
          ∙ ap (λ b. cond b (merge list (arrival_at k ms)) (arrival_at k ms)) (sym test)
    ]

-- what was taken is not looked at again
pub taken_holds : (pending : List Arrival) (pc : ℕ) (new : Arrival) (ms : List Message) → HoldsFrom pc pending ms
    → HoldsFrom (pc + 1) (set pending pc new) ms
taken_holds pending pc new ms holds k a low h =
    holds k a (omega (arith, low)) (sym (set_other pending k pc new (λ same. omega (arith, same, low))) ∙ h)

-- before any instruction was read
pub entry_first : (a : Arrival) → arrived a ≡ agreed [] → HoldsFrom 0 (a ∷ []) (entry 0)
entry_first a is zero b low h = let same : b ≡ a = cc in ap arrived same ∙ is
entry_first a is (suc k) b low h = cc

pub entry_more : (pending : List Arrival) (a : Arrival) → 0 < length pending → arrived a ≡ nothing
    → HoldsFrom 0 pending (entry 0) → HoldsFrom 0 (pending ++ a ∷ []) (entry 0)
entry_more pending a some is holds k b low h =
    elim (pushed_at pending a b k h) [
      | inl old ↦ holds k b low old
      | inr new ↦
          let test : (0 == k) ≡ false = ne_eqb 0 k (λ e. omega (arith, e, new.0, some)) in
          ap arrived new.1 ∙ is ∙ ap (λ b. cond b (agreed []) nothing) (sym test)
    ]
