-- How writes change the links.
use Rattle.std.proofs.Common.{◌≡◌, ◌≢◌, ℕ, List, [], ◌∷◌, ◌++◌, refl, sym, ap, ◌∙◌, subst, ◌⊎◌, inl}
use Rattle.std.proofs.Common.{inr}
use Rattle.attempt_pool.specs.Lists.{Has, Apart, Linked, Chained}
use Rattle.attempt_pool.proofs.NodeLaws.{which}
use Rattle.attempt_pool.proofs.ListLaws.{has_along, has_past, without, without_here, without_past}

module _ (N P : ℕ → ℕ) where
  pub next-in : (a : ℕ) (xs : List ℕ) (z : ℕ) → Linked N P a xs z → Has (N a) xs ⊎ (N a ≡ z)
  unfolding Linked Has
  next-in a [] z h = inr h.0
  next-in a (x ∷ xs) z h = inl (inl h.0)

  pub next_of-in : (a : ℕ) (xs : List ℕ) (z s : ℕ) → Linked N P a xs z → Has s xs
      → Has (N s) xs ⊎ (N s ≡ z)
  unfolding Linked Has
  next_of-in a [] z s h m = absurd m
  next_of-in a (x ∷ xs) z s h (inl e) = elim (next-in x xs z h.2) [
    | inl u ↦ inl (inr (has_along (N x) (N s) xs (ap N (sym e)) u))
    | inr v ↦ inr (ap N e ∙ v)
  ]
  next_of-in a (x ∷ xs) z s h (inr m) = elim (next_of-in x xs z s h.2 m) [
    | inl u ↦
        inl (inr u)
    | inr v ↦ inr v
  ]

  pub prev_of-in : (a : ℕ) (xs : List ℕ) (z s : ℕ) → Linked N P a xs z → Has s xs
      → Has (P s) (a ∷ xs)
  unfolding Linked Has
  prev_of-in a [] z s h m = absurd m
  prev_of-in a (x ∷ xs) z s h (inl e) = inl (ap P e ∙ h.1)
  prev_of-in a (x ∷ xs) z s h (inr m) = inr (prev_of-in x xs z s h.2 m)

  pub last-in : (a : ℕ) (xs : List ℕ) (z : ℕ) → Linked N P a xs z → Has (P z) (a ∷ xs)
  unfolding Linked Has
  last-in a [] z h = inl h.1
  last-in a (x ∷ xs) z h = inr (last-in x xs z h.2)

  -- the one before s is another
  pub prev_other : (a : ℕ) (xs : List ℕ) (z s : ℕ) → Linked N P a xs z → Apart (a ∷ xs) → Has s xs
      → P s ≢ s
  unfolding Linked Has Apart
  prev_other a [] z s h d m e = m
  prev_other a (x ∷ xs) z s h d (inl is) e = d.0 (inl (sym h.1 ∙ ap P (sym is) ∙ e ∙ is))
  prev_other a (x ∷ xs) z s h d (inr m) e = prev_other x xs z s h.2 d.1 m e

  module _ (N' P' : ℕ → ℕ) where
    pub linked_same : (a : ℕ) (xs : List ℕ) (z : ℕ) → Linked N P a xs z
        → ((j : ℕ) → Has j (a ∷ xs) → N' j ≡ N j) → ((j : ℕ) → Has j xs ⊎ (j ≡ z) → P' j ≡ P j)
        → Linked N' P' a xs z
    unfolding Linked Has
    linked_same a [] z h n p = (n a (inl refl) ∙ h.0, p z (inr refl) ∙ h.1)
    linked_same a (x ∷ xs) z h n p = (
      n a (inl refl) ∙ h.0,
      p x (inl (inl refl)) ∙ h.1,
      linked_same x xs z h.2 (λ j m. n j (inr m))
          (λ j m. p j (elim m [ inl u ↦ inl (inr u) | inr v ↦ inr v ])),
    )

    -- those round s are linked to each other
    pub record Unlinks (s : ℕ) : Type 0 where
      pub skip_next : N' (P s) ≡ N s
      pub skip_prev : P' (N s) ≡ P s
      pub same_next : (j : ℕ) → j ≢ P s → j ≢ s → N' j ≡ N j
      pub same_prev : (j : ℕ) → j ≢ N s → P' j ≡ P j

    here : (a x : ℕ) (xs : List ℕ) (z s : ℕ) → Linked N P a (x ∷ xs) z → Apart (a ∷ x ∷ xs)
        → (Has z (x ∷ xs) → ⊥) → s ≡ x → Unlinks s → Linked N' P' a xs z
    unfolding Linked Has Apart
    here a x [] z s h d nz e u =
        let ps : P s ≡ a = ap P e ∙ h.1 in let ns : N s ≡ z = ap N e ∙ h.2.0 in
        (ap N' (sym ps) ∙ u.skip_next ∙ ns, ap P' (sym ns) ∙ u.skip_prev ∙ ps)
    here a x (y ∷ xs) z s h d nz e u =
        let ps : P s ≡ a = ap P e ∙ h.1 in let ns : N s ≡ y = ap N e ∙ h.2.0 in (
          ap N' (sym ps) ∙ u.skip_next ∙ ns,
          ap P' (sym ns) ∙ u.skip_prev ∙ ps,
          linked_same y xs z h.2.2
              (λ j m. u.same_next j (λ is. d.0 (inr (has_along j a (y ∷ xs) (is ∙ ps) m)))
              (λ is. d.1.0 (has_along j x (y ∷ xs) (is ∙ e) m)))
              (λ j m. u.same_prev j (λ is. elim m [
                | inl w ↦ d.1.1.0 (has_along j y xs (is ∙ ns) w)
                | inr w ↦ nz (inr (inl (sym w ∙ is ∙ ns)))
              ])),
        )

    pub unlinked : (a : ℕ) (xs : List ℕ) (z s : ℕ) → Linked N P a xs z → Apart (a ∷ xs)
        → (Has z xs → ⊥) → Has s xs → Unlinks s → Linked N' P' a (without s xs) z
    unfolding Linked Has Apart
    unlinked a [] z s h d nz m u = absurd m
    unlinked a (x ∷ xs) z s h d nz m u = elim (which s x) [
      | inl e ↦ subst (λ l. Linked N' P' a l z) (sym (without_here s x xs e))
          (here a x xs z s h d nz e u)
      | inr ne ↦
          let hs = has_past s x xs ne m in
          let more : Linked N' P' a (x ∷ without s xs) z = (
            u.same_next a (λ is. d.0 (has_along (P s) a (x ∷ xs) (sym is)
                (prev_of-in x xs z s h.2 hs))) (λ is. d.0 (has_along s a (x ∷ xs) (sym is) m))
                ∙ h.0,
            u.same_prev x (λ is. elim (next_of-in x xs z s h.2 hs) [
              | inl w ↦ d.1.0 (has_along (N s) x xs (sym is) w)
              | inr w ↦ nz (inl (sym w ∙ sym is))
            ]) ∙ h.1,
            unlinked x xs z s h.2 d.1 (λ k. nz (inr k)) hs u,
          ) in
          subst (λ l. Linked N' P' a l z) (sym (without_past s x xs ne)) more
    ]

    -- f comes in before z
    pub record Appends (f z : ℕ) : Type 0 where
      pub new_next : N' (P z) ≡ f
      pub new_prev : P' z ≡ f
      pub its_next : N' f ≡ z
      pub its_prev : P' f ≡ P z
      pub same_next : (j : ℕ) → j ≢ P z → j ≢ f → N' j ≡ N j
      pub same_prev : (j : ℕ) → j ≢ z → j ≢ f → P' j ≡ P j

    pub appended : (a : ℕ) (xs : List ℕ) (z f : ℕ) → Linked N P a xs z → Apart (a ∷ xs)
        → (Has z xs → ⊥) → (Has f (a ∷ xs) → ⊥) → Appends f z → Linked N' P' a (xs ++ f ∷ []) z
    unfolding Linked Has Apart
    appended a [] z f h d nz nf u = (
      ap N' (sym h.1) ∙ u.new_next,
      u.its_prev
          ∙ h.1,
      (u.its_next, u.new_prev),
    )
    appended a (x ∷ xs) z f h d nz nf u = (
      u.same_next a (λ is. d.0 (has_along (P z) a (x ∷ xs) (sym is) (last-in x xs z h.2)))
          (λ is. nf (inl (sym is))) ∙ h.0,
      u.same_prev x (λ is. nz (inl (sym is))) (λ is. nf (inr (inl (sym is)))) ∙ h.1,
      appended x xs z f h.2 d.1 (λ k. nz (inr k)) (λ k. nf (inr k)) u,
    )

pub chained_same : (N N' : ℕ → ℕ) (a : ℕ) (xs : List ℕ) → Chained N a xs
    → ((j : ℕ) → Has j xs → N' j ≡ N j) → Chained N' a xs
unfolding Chained Has
chained_same N N' a [] h n = tt
chained_same N N' a (x ∷ xs) h n = (
  h.0,
  subst (λ (k : ℕ). Chained N' k xs) (sym (n x (inl refl)))
      (chained_same N N' (N x) xs h.1 (λ j m. n j (inr m))),
)

pub chained_front : (N : ℕ → ℕ) (s a : ℕ) (xs : List ℕ) → N s ≡ a → Chained N a xs
    → Chained N s (s ∷ xs)
unfolding Chained
chained_front N s a xs e h = (refl, subst (λ (k : ℕ). Chained N k xs) (sym e) h)

pub chained_rest : (N : ℕ → ℕ) (a x : ℕ) (xs : List ℕ) → Chained N a (x ∷ xs)
    → (a ≡ x) × Chained N (N x) xs
unfolding Chained
chained_rest N a x xs h = h
