-- Lists of places, no two of which are equal.
use Rattle.std.proofs.Common.{◌≡◌, ◌≢◌, ℕ, ◌+◌, List, [], ◌∷◌, ◌++◌, length, refl, sym, ap, subst}
use Rattle.std.proofs.Common.{arith, ◌⊎◌, inl, inr}
use Rattle.std.proofs.lemmas.Bool.Decides.{eqb_tells}
use Rattle.std.specs.Prelude.{nat_eq, cond}
use Rattle.attempt_pool.specs.Lists.{Has, Apart}
use Rattle.attempt_pool.proofs.NodeLaws.{which}

pub has_along : (s t : ℕ) (xs : List ℕ) → s ≡ t → Has s xs → Has t xs
has_along s t xs e h = subst (λ (k : ℕ). Has k xs) e h

pub has-append : (s : ℕ) (xs ys : List ℕ) → Has s (xs ++ ys) → Has s xs ⊎ Has s ys
unfolding Has
has-append s [] ys h = inr h
has-append s (x ∷ xs) ys (inl e) = inl (inl e)
has-append s (x ∷ xs) ys (inr h) = elim (has-append s xs ys h) [
  | inl a ↦ inl (inr a)
  | inr b ↦
      inr b
]

pub apart-push : (xs : List ℕ) (s : ℕ) → Apart xs → (Has s xs → ⊥) → Apart (xs ++ s ∷ [])
unfolding Apart Has
apart-push [] s a n = (λ h. h, tt)
apart-push (x ∷ xs) s a n = (
  λ h. elim (has-append x xs (s ∷ []) h) [
    | inl u ↦ a.0 u
    | inr v ↦ elim v [ inl e ↦ n (inl (sym e)) | inr w ↦ w ]
  ],
  apart-push xs s a.1 (λ h. n (inr h)),
)

-- the list without s
unfoldable pub without : ℕ → List ℕ → List ℕ
without s [] = []
without s (x ∷ xs) = cond (nat_eq s x) xs (x ∷ without s xs)

pub empty-without : (s : ℕ) → without s [] ≡ []
unfolding without
empty-without s = refl

pub without_here : (s x : ℕ) (xs : List ℕ) → s ≡ x → without s (x ∷ xs) ≡ xs
unfolding without
without_here s x xs e = elim (eqb_tells s x) [
  | inl h ↦ ap (λ b. cond b xs (x ∷ without s xs)) h.0
  | inr h ↦ absurd (h.1 e)
]

pub without_past : (s x : ℕ) (xs : List ℕ) → s ≢ x → without s (x ∷ xs) ≡ x ∷ without s xs
unfolding without
without_past s x xs ne = elim (eqb_tells s x) [
  | inl h ↦ absurd (ne h.1)
  | inr h ↦ ap (λ b. cond b xs (x ∷ without s xs)) h.0
]

pub has_past : (s x : ℕ) (xs : List ℕ) → s ≢ x → Has s (x ∷ xs) → Has s xs
unfolding Has
has_past s x xs ne (inl e) = absurd (ne e)
has_past s x xs ne (inr h) = h

pub has-without : (j s : ℕ) (xs : List ℕ) → Has j (without s xs) → Has j xs
unfolding Has without
has-without j s [] h = h
has-without j s (x ∷ xs) h = elim (which s x) [
  | inl e ↦ inr (subst (Has j) (without_here s x xs e) h)
  | inr ne ↦ elim (subst (Has j) (without_past s x xs ne) h) as (λ _. Has j (x ∷ xs)) [
    | inl e ↦
        inl e
    | inr u ↦ inr (has-without j s xs u)
  ]
]

pub gone : (s : ℕ) (xs : List ℕ) → Apart xs → Has s (without s xs) → ⊥
unfolding Has Apart
gone s [] a h = subst (Has s) (empty-without s) h
gone s (x ∷ xs) a h = elim (which s x) [
  | inl e ↦ a.0 (has_along s x xs e (subst (Has s) (without_here s x xs e) h))
  | inr ne ↦ gone s xs a.1 (has_past s x (without s xs) ne
      (subst (Has s) (without_past s x xs ne) h))
]

pub apart-without : (s : ℕ) (xs : List ℕ) → Apart xs → Apart (without s xs)
unfolding Apart
apart-without s [] a = subst Apart (sym (empty-without s)) a
apart-without s (x ∷ xs) a = elim (which s x) [
  | inl e ↦ subst Apart (sym (without_here s x xs e)) a.1
  | inr ne ↦ let more : Apart (x ∷ without s xs) =
      (λ h. a.0 (has-without x s xs h), apart-without s xs a.1) in
      subst Apart (sym (without_past s x xs ne)) more
]

pub length-without : (s : ℕ) (xs : List ℕ) → Has s xs → length (without s xs) + 1 ≡ length xs
unfolding Has
length-without s [] h = absurd h
length-without s (x ∷ xs) h = elim (which s x) [
  | inl e ↦ omega (arith, ap length (without_here s x xs e))
  | inr ne ↦ omega (
    arith,
    ap length (without_past s x xs ne),
    length-without s xs (has_past s x xs ne h),
  )
]

pub has_head : (s x : ℕ) (xs : List ℕ) → Has s (x ∷ xs) → (s ≡ x) ⊎ Has s xs
unfolding Has
has_head s x xs h = h

pub apart_front : (s : ℕ) (xs : List ℕ) → (Has s xs → ⊥) → Apart xs → Apart (s ∷ xs)
unfolding Apart
apart_front s xs n a = (n, a)

pub has_first : (s : ℕ) (xs : List ℕ) → Has s (s ∷ xs)
unfolding Has
has_first s xs = inl refl

pub has_later : (s x : ℕ) (xs : List ℕ) → Has s xs → Has s (x ∷ xs)
unfolding Has
has_later s x xs h = inr h

pub apart_rest : (s : ℕ) (xs : List ℕ) → Apart (s ∷ xs) → (Has s xs → ⊥) × Apart xs
unfolding Apart
apart_rest s xs a = a

pub has-push : (j s : ℕ) (xs : List ℕ) → Has j (xs ++ s ∷ []) → Has j xs ⊎ (j ≡ s)
unfolding Has
has-push j s xs h = elim (has-append j xs (s ∷ []) h) [
  | inl u ↦ inl u
  | inr v ↦
      elim v [ inl e ↦ inr e | inr w ↦ absurd w ]
]
