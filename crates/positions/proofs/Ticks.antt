-- A match is its first states and what a tick does to them.
use Rattle.std.proofs.Common.{◌≡◌, ◌⊎◌, inl, inr, ℕ, zero, suc, ◌+◌, ◌-◌, ◌<◌, ◌≤◌, Bool, true, false, refl, sym, ◌∙◌}
use Rattle.std.proofs.Common.{subst, arith}
use Rattle.std.specs.Prelude.{IsTrue}
use Rattle.std.proofs.lemmas.Bool.{cases_eq}
use Rattle.assertions.specs.Segments.{Matches, Chain}
use Rattle.assertions.proofs.Segments.{Matches-forward, Chain-forward}
use Rattle.positions.specs.Plans.{Plan, tick, skip, any, all, pair, under, loop, link, plan_sequence}
use Rattle.positions.specs.States.{PlanState, Nullable, First, Ends, StepsTo, Left, At}

module _ (B : Type 0) (holds : B → ℕ → Bool) where
  -- the two ways of a link
  abbrev pub Linked : (fuses follows : Bool) (r g s : Plan B) (i j : ℕ) → Type 0
  Linked fuses follows r g s i j =
      (IsTrue fuses × (e : ℕ) × (i ≤ e) × (e < j) × Matches holds (plan_sequence r) i (e + 1)
      × Matches holds (plan_sequence s) e j)
      ⊎ (IsTrue follows × (m : ℕ) × (k : ℕ) × Matches holds (plan_sequence r) i m × Matches holds (plan_sequence g) m k
      × Matches holds (plan_sequence s) k j)

  pub link-Linked : (f a : Bool) (r g s : Plan B) (i j : ℕ) → Matches holds (plan_sequence (link f a r g s)) i j
      → Linked f a r g s i j
  link-Linked true true r g s i j (inl x) = inl (refl, x.0, x.1, x.2, x.3, x.4)
  link-Linked true true r g s i j (inr x) = inr (refl, x.1.0, x.0, x.1.1, x.1.2, x.2)
  link-Linked true false r g s i j x = inl (refl, x.0, x.1, x.2, x.3, x.4)
  link-Linked false true r g s i j x = inr (refl, x.1.0, x.0, x.1.1, x.1.2, x.2)
  link-Linked false false r g s i j x = absurd (omega (arith, x.3, x.1))

  pub Linked-link : (f a : Bool) (r g s : Plan B) (i j : ℕ) → Linked f a r g s i j
      → Matches holds (plan_sequence (link f a r g s)) i j
  Linked-link true true r g s i j (inl x) = inl (x.1, x.2, x.3, x.4, x.5)
  Linked-link true true r g s i j (inr x) = inr (x.2, (x.1, x.3, x.4), x.5)
  Linked-link true false r g s i j (inl x) = (x.1, x.2, x.3, x.4, x.5)
  Linked-link true false r g s i j (inr x) = cc
  Linked-link false true r g s i j (inl x) = cc
  Linked-link false true r g s i j (inr x) = (x.2, (x.1, x.3, x.4), x.5)
  Linked-link false false r g s i j (inl x) = cc
  Linked-link false false r g s i j (inr x) = cc

  -- what is left takes a tick at least
  pub Left-after : (r : Plan B) (t : PlanState r) (i j : ℕ) → Left holds r t i j → i < j
  Left-after (tick b) t i j h = omega (arith, h.0)
  Left-after skip t i j h = absurd h
  Left-after (any r s) (inl p) i j h = Left-after r p i j h
  Left-after (any r s) (inr q) i j h = Left-after s q i j h
  Left-after (all r s) (inl t) i j h = omega (arith, Left-after r t.0 i h.0 h.2, h.4)
  Left-after (all r s) (inr (inl p)) i j h = Left-after r p i j h
  Left-after (all r s) (inr (inr q)) i j h = Left-after s q i j h
  Left-after (pair r s) t i j h = Left-after r t.0 i j h.0
  Left-after (under b r) p i j h = Left-after r p i j h.0
  Left-after (loop r least most) t i j h =
      omega (
        arith,
        Left-after r t.1 i h.0 h.1,
        Chain-forward (Matches holds (plan_sequence r)) (Matches-forward B holds (plan_sequence r)) h.2.0 h.0 j h.2.3,
      )
  Left-after (link f a r g s) (inl p) i j h =
      elim h [
        | inl x ↦ omega (arith, x.2, x.3)
        | inr x ↦ omega (
          arith,
          Left-after r p i x.1 x.3,
          Matches-forward B holds (plan_sequence g) x.1 x.2 x.4,
          Matches-forward B holds (plan_sequence s) x.2 j x.5,
        )
      ]
  Left-after (link f a r g s) (inr (inl q)) i j h =
      omega (arith, Left-after g q i h.0 h.1, Matches-forward B holds (plan_sequence s) h.0 j h.2)
  Left-after (link f a r g s) (inr (inr t)) i j h = Left-after s t i j h

  -- the empty segment matches anywhere where it is nullable
  Nullable-Chain : (P : ℕ → ℕ → Type 0) → ((i : ℕ) → P i i) → (n i : ℕ) → Chain P n i i
  Nullable-Chain P h zero i = refl
  Nullable-Chain P h (suc n) i = (i, Nullable-Chain P h n i, h i)

  pub Nullable-Match : (r : Plan B) → Nullable r → (i : ℕ) → Matches holds (plan_sequence r) i i
  Nullable-Match (tick b) h i = absurd h
  Nullable-Match skip h i = refl
  Nullable-Match (any r s) h i = elim h [ inl a ↦ inl (Nullable-Match r a i) | inr b ↦ inr (Nullable-Match s b i) ]
  Nullable-Match (all r s) h i = (i, i, Nullable-Match r h.0 i, Nullable-Match s h.1 i, omega arith)
  Nullable-Match (pair r s) h i = (Nullable-Match r h.0 i, Nullable-Match s h.1 i)
  Nullable-Match (under b r) h i = (Nullable-Match r h i, λ k from below. absurd (omega arith))
  Nullable-Match (loop r least most) h i = elim h.1 [
    | inl z ↦ (0, omega (arith, z), omega arith, refl)
    | inr n ↦ (least, omega arith, h.0, Nullable-Chain (Matches holds (plan_sequence r)) (Nullable-Match r n) least i)
  ]
  Nullable-Match (link f a r g s) h i =
      Linked-link f a r g s i i
      (inr (h.0, i, i, Nullable-Match r h.1 i, Nullable-Match g h.2 i, Nullable-Match s h.3 i))

  -- a match is empty, or begins with a first state
  abbrev pub Begins : (r : Plan B) (i j : ℕ) → Type 0
  Begins r i j = ((i ≡ j) × Nullable r) ⊎ ((t : PlanState r) × First r t × Left holds r t i j)

  -- what is left of a chain, with a match in front
  Chain-front : (P : ℕ → ℕ → Type 0) (n i m j : ℕ) → P i m → Chain P n m j → Chain P (suc n) i j
  Chain-front P zero i m j h c = (i, refl, subst (λ k. P i k) c h)
  Chain-front P (suc n) i m j h c = (c.0, Chain-front P n i m c.0 h c.1, c.2)

  -- the front of a chain
  Chain-rest : (P : ℕ → ℕ → Type 0) (n i j : ℕ) → Chain P (suc n) i j → (m : ℕ) × P i m × Chain P n m j
  Chain-rest P zero i j c = (j, subst (λ k. P k j) (sym c.1) c.2, refl)
  Chain-rest P (suc n) i j c =
      let r = Chain-rest P n i c.0 c.1 in
      (r.0, r.1, (c.0, r.2, c.2))

  -- a chain is empty, or so many empty matches, and then one that begins with a first state
  Chain-begins : (r : Plan B) → ((i j : ℕ) → Matches holds (plan_sequence r) i j → Begins r i j) → (n i j : ℕ)
      → Chain (Matches holds (plan_sequence r)) n i j → ((i ≡ j) × ((n ≡ 0) ⊎ Nullable r))
      ⊎ ((c : ℕ) × (p : PlanState r) × (m : ℕ) × (k : ℕ) × (c + 1 + k ≡ n) × ((c ≡ 0) ⊎ Nullable r) × First r p
      × Left holds r p i m × Chain (Matches holds (plan_sequence r)) k m j)
  Chain-begins r begins zero i j h = inl (h, inl refl)
  Chain-begins r begins (suc n) i j h =
      let rest = Chain-rest (Matches holds (plan_sequence r)) n i j h in
      elim (begins i rest.0 rest.1) [
        | inl a ↦
            elim (Chain-begins r begins n i j
            (subst (λ m. Chain (Matches holds (plan_sequence r)) n m j) (sym a.0) rest.2)) [
              | inl b ↦ inl (b.0, inr a.1)
              | inr b ↦ inr (b.0 + 1, b.1, b.2, b.3, omega (arith, b.4), inr a.1, b.6, b.7, b.8)
            ]
        | inr a ↦ inr (0, a.0, rest.0, n, omega arith, inl refl, a.1, a.2, rest.2)
      ]

  -- so many empty matches in front of a chain
  Chain-fronts : (P : ℕ → ℕ → Type 0) (c n i j : ℕ) → ((c ≡ 0) ⊎ P i i) → Chain P n i j → Chain P (c + n) i j
  Chain-fronts P zero n i j h x = let e : n ≡ 0 + n = omega arith in subst (λ k. Chain P k i j) e x
  Chain-fronts P (suc c) n i j (inl z) x = absurd (omega arith)
  Chain-fronts P (suc c) n i j (inr h) x =
      let e : suc (c + n) ≡ suc c + n = omega arith in
      subst (λ k. Chain P k i j) e (Chain-front P (c + n) i i j h (Chain-fronts P c n i j (inr h) x))

  pub Match-begins : (r : Plan B) (i j : ℕ) → Matches holds (plan_sequence r) i j → Begins r i j
  Match-begins (tick b) i j h = inr (tt, tt, h)
  Match-begins skip i j h = inl (h, tt)
  Match-begins (any r s) i j h =
      elim h [
        | inl h ↦ elim (Match-begins r i j h) [ inl a ↦ inl (a.0, inl a.1) | inr a ↦ inr (inl a.0, a.1, a.2) ]
        | inr h ↦ elim (Match-begins s i j h) [ inl a ↦ inl (a.0, inr a.1) | inr a ↦ inr (inr a.0, a.1, a.2) ]
      ]
  Match-begins (all r s) i j h =
      elim (Match-begins r i h.0 h.2) [
        | inl a ↦
            elim (Match-begins s i h.1 h.3) [
              | inl b ↦ inl (omega (arith, a.0, b.0, h.4), (a.1, b.1))
              | inr b ↦
                  let e : h.1 ≡ j = omega (arith, a.0, Matches-forward B holds (plan_sequence s) i h.1 h.3, h.4) in
                  inr (inr (inr b.0), (a.1, b.1), subst (λ k. Left holds s b.0 i k) e b.2)
            ]
        | inr a ↦
            elim (Match-begins s i h.1 h.3) [
              | inl b ↦
                  let e : h.0 ≡ j = omega (arith, b.0, Matches-forward B holds (plan_sequence r) i h.0 h.2, h.4) in
                  inr (inr (inl a.0), (a.1, b.1), subst (λ k. Left holds r a.0 i k) e a.2)
              | inr b ↦ inr (inl (a.0, b.0), (a.1, b.1), (h.0, h.1, a.2, b.2, h.4))
            ]
      ]
  Match-begins (pair r s) i j h =
      elim (Match-begins r i j h.0) [
        | inl a ↦
            elim (Match-begins s i j h.1) [
              | inl b ↦ inl (a.0, (a.1, b.1))
              | inr b ↦ absurd (omega (arith, a.0, Left-after s b.0 i j b.2))
            ]
        | inr a ↦
            elim (Match-begins s i j h.1) [
              | inl b ↦ absurd (omega (arith, b.0, Left-after r a.0 i j a.2))
              | inr b ↦ inr ((a.0, b.0), (a.1, b.1), (a.2, b.2))
            ]
      ]
  Match-begins (under b r) i j h =
      elim (Match-begins r i j h.0) [ inl a ↦ inl (a.0, a.1) | inr a ↦ inr (a.0, a.1, (a.2, h.1)) ]
  Match-begins (loop r least most) i j h =
      elim (Chain-begins r (Match-begins r) h.0 i j h.3) [
        | inl a ↦ inl (a.0, (omega (arith, h.1, h.2), elim a.1 [ inl z ↦ inl (omega (arith, z, h.1)) | inr n ↦ inr n ]))
        | inr a ↦
            inr (
              (a.0, a.1, omega (arith, a.4, h.2)),
              (omega (arith, a.4, h.2), a.5, a.6),
              (a.2, a.7, (a.3, omega (arith, a.4, h.1), omega (arith, a.4, h.2), a.8)),
            )
      ]
  Match-begins (link f a r g s) i j h =
      elim (link-Linked f a r g s i j h) [
        | inl x ↦
            elim (Match-begins r i (x.1 + 1) x.4) [
              | inl b ↦ absurd (omega (arith, b.0, x.2))
              | inr b ↦ inr (inl b.0, b.1, inl (x.0, x.1, x.2, x.3, b.2, x.5))
            ]
        | inr x ↦
            elim (Match-begins r i x.1 x.3) [
              | inr b ↦ inr (inl b.0, b.1, inr (x.0, x.1, x.2, b.2, x.4, x.5))
              | inl b ↦
                  elim (Match-begins g i x.2 (subst (λ m. Matches holds (plan_sequence g) m x.2) (sym b.0) x.4)) [
                    | inr d ↦ inr (inr (inl d.0), (x.0, b.1, d.1), (x.2, d.2, x.5))
                    | inl d ↦
                        elim (Match-begins s i j (subst (λ m. Matches holds (plan_sequence s) m j) (sym d.0) x.5)) [
                          | inl e ↦ inl (e.0, (x.0, b.1, d.1, e.1))
                          | inr e ↦ inr (inr (inr e.0), (x.0, b.1, d.1, e.1), e.2)
                        ]
                  ]
            ]
      ]

  -- what is left from a first state is a match
  First-Match : (r : Plan B) (t : PlanState r) (i j : ℕ) → First r t → Left holds r t i j
      → Matches holds (plan_sequence r) i j
  First-Match (tick b) t i j f h = h
  First-Match skip t i j f h = absurd h
  First-Match (any r s) (inl p) i j f h = inl (First-Match r p i j f h)
  First-Match (any r s) (inr q) i j f h = inr (First-Match s q i j f h)
  First-Match (all r s) (inl t) i j f h =
      (h.0, h.1, First-Match r t.0 i h.0 f.0 h.2, First-Match s t.1 i h.1 f.1 h.3, h.4)
  First-Match (all r s) (inr (inl p)) i j f h =
      (j, i, First-Match r p i j f.0 h, Nullable-Match s f.1 i, omega (arith, Left-after r p i j h))
  First-Match (all r s) (inr (inr q)) i j f h =
      (i, j, Nullable-Match r f.0 i, First-Match s q i j f.1 h, omega (arith, Left-after s q i j h))
  First-Match (pair r s) t i j f h = (First-Match r t.0 i j f.0 h.0, First-Match s t.1 i j f.1 h.1)
  First-Match (under b r) p i j f h = (First-Match r p i j f h.0, h.1)
  First-Match (loop r least most) t i j f h =
      let front = Chain-front (Matches holds (plan_sequence r)) h.2.0 i h.0 j (First-Match r t.1 i h.0 f.2 h.1) h.2.3 in
      let empties : (t.0 ≡ 0) ⊎ Matches holds (plan_sequence r) i i =
      elim f.1 [ inl z ↦ inl z | inr n ↦ inr (Nullable-Match r n i) ] in (
        t.0 + suc h.2.0,
        omega (arith, h.2.1),
        omega (arith, h.2.2),
        Chain-fronts (Matches holds (plan_sequence r)) t.0 (suc h.2.0) i j empties front,
      )
  First-Match (link f a r g s) (inl p) i j n h =
      elim h [
        | inl x ↦ Linked-link f a r g s i j (inl (x.0, x.1, x.2, x.3, First-Match r p i (x.1 + 1) n x.4, x.5))
        | inr x ↦ Linked-link f a r g s i j (inr (x.0, x.1, x.2, First-Match r p i x.1 n x.3, x.4, x.5))
      ]
  First-Match (link f a r g s) (inr (inl q)) i j n h =
      Linked-link f a r g s i j (inr (n.0, i, h.0, Nullable-Match r n.1 i, First-Match g q i h.0 n.2 h.1, h.2))
  First-Match (link f a r g s) (inr (inr t)) i j n h =
      Linked-link f a r g s i j
      (inr (n.0, i, i, Nullable-Match r n.1 i, Nullable-Match g n.2 i, First-Match s t i j n.3 h))

  begins-Match : (r : Plan B) (i j : ℕ) → Begins r i j → Matches holds (plan_sequence r) i j
  begins-Match r i j h = elim h [
    | inl a ↦ subst (λ k. Matches holds (plan_sequence r) i k) a.0 (Nullable-Match r a.1 i)
    | inr a ↦ First-Match r a.0 i j a.1 a.2
  ]

  -- a tick: the state ends a match, or goes on to a state that does
  abbrev pub Goes : (r : Plan B) (t : PlanState r) (i j : ℕ) → Type 0
  Goes r t i j = ((j ≡ i + 1) × Ends holds r t i) ⊎
      ((u : PlanState r) × StepsTo holds r t i u × Left holds r u (i + 1) j)

  -- what is left goes on so
  pub Left-goes : (r : Plan B) (t : PlanState r) (i j : ℕ) → Left holds r t i j → Goes r t i j
  Left-goes (tick b) t i j h = inl h
  Left-goes skip t i j h = absurd h
  Left-goes (any r s) (inl p) i j h = elim (Left-goes r p i j h) [ inl a ↦ inl a | inr a ↦ inr (inl a.0, a.1, a.2) ]
  Left-goes (any r s) (inr q) i j h = elim (Left-goes s q i j h) [ inl a ↦ inl a | inr a ↦ inr (inr a.0, a.1, a.2) ]
  Left-goes (all r s) (inl t) i j h =
      elim (Left-goes r t.0 i h.0 h.2) [
        | inl a ↦
            elim (Left-goes s t.1 i h.1 h.3) [
              | inl b ↦ inl (omega (arith, a.0, b.0, h.4), (a.1, b.1))
              | inr b ↦
                  let e : h.1 ≡ j = omega (arith, a.0, Left-after s b.0 (i + 1) h.1 b.2, h.4) in
                  inr (inr (inr b.0), (a.1, b.1), subst (λ k. Left holds s b.0 (i + 1) k) e b.2)
            ]
        | inr a ↦
            elim (Left-goes s t.1 i h.1 h.3) [
              | inl b ↦
                  let e : h.0 ≡ j = omega (arith, b.0, Left-after r a.0 (i + 1) h.0 a.2, h.4) in
                  inr (inr (inl a.0), (a.1, b.1), subst (λ k. Left holds r a.0 (i + 1) k) e a.2)
              | inr b ↦ inr (inl (a.0, b.0), (a.1, b.1), (h.0, h.1, a.2, b.2, h.4))
            ]
      ]
  Left-goes (all r s) (inr (inl p)) i j h =
      elim (Left-goes r p i j h) [ inl a ↦ inl a | inr a ↦ inr (inr (inl a.0), a.1, a.2) ]
  Left-goes (all r s) (inr (inr q)) i j h =
      elim (Left-goes s q i j h) [ inl a ↦ inl a | inr a ↦ inr (inr (inr a.0), a.1, a.2) ]
  Left-goes (pair r s) t i j h =
      elim (Left-goes r t.0 i j h.0) [
        | inl a ↦
            elim (Left-goes s t.1 i j h.1) [
              | inl b ↦ inl (a.0, (a.1, b.1))
              | inr b ↦ absurd (omega (arith, a.0, Left-after s b.0 (i + 1) j b.2))
            ]
        | inr a ↦
            elim (Left-goes s t.1 i j h.1) [
              | inl b ↦ absurd (omega (arith, b.0, Left-after r a.0 (i + 1) j a.2))
              | inr b ↦ inr ((a.0, b.0), (a.1, b.1), (a.2, b.2))
            ]
      ]
  Left-goes (under b r) p i j h =
      let here : IsTrue (holds b i) = h.1 i (omega arith) (Left-after r p i j h.0) in
      elim (Left-goes r p i j h.0) [
        | inl a ↦ inl (a.0, (a.1, here))
        | inr a ↦ inr (a.0, (a.1, here), (a.2, λ k from below. h.1 k (omega arith) below))
      ]
  Left-goes (loop r least most) t i j h =
      elim (Left-goes r t.1 i h.0 h.1) [
        | inl a ↦
            elim (Chain-begins r (Match-begins r) h.2.0 h.0 j h.2.3) [
              | inl b ↦
                  inl (
                    sym b.0 ∙ a.0,
                    (
                      a.1,
                      omega (arith, h.2.2),
                      omega (arith, h.2.1, h.2.2),
                      elim b.1 [ inl z ↦ inl (omega (arith, h.2.1, z)) | inr n ↦ inr n ],
                    ),
                  )
              | inr b ↦
                  inr (
                    (t.0 + 1 + b.0, b.1, omega (arith, b.4, h.2.2)),
                    inr (
                      a.1,
                      omega arith,
                      omega (arith, b.4, h.2.2),
                      elim b.5 [ inl z ↦ inl (omega (arith, z)) | inr n ↦ inr n ],
                      b.6,
                    ),
                    (
                      b.2,
                      subst (λ m. Left holds r b.1 m b.2) a.0 b.7,
                      (b.3, omega (arith, b.4, h.2.1), omega (arith, b.4, h.2.2), b.8),
                    ),
                  )
            ]
        | inr a ↦ inr ((t.0, a.0, t.2), inl (refl, a.1), (h.0, a.2, h.2))
      ]
  Left-goes (link f a r g s) (inl p) i j (inl x) =
      elim (Left-goes r p i (x.1 + 1) x.4) [
        | inl b ↦
            let e : x.1 ≡ i = omega (arith, b.0) in
            elim (Match-begins s i j (subst (λ m. Matches holds (plan_sequence s) m j) e x.5)) [
              | inl d ↦ absurd (omega (arith, d.0, x.3, e))
              | inr d ↦
                  elim (Left-goes s d.0 i j d.2) [
                    | inl c ↦ inl (c.0, (b.1, inr (x.0, d.0, d.1, c.1)))
                    | inr c ↦ inr (inr (inr c.0), (b.1, inr (x.0, d.0, d.1, c.1)), c.2)
                  ]
            ]
        | inr b ↦
            inr (inl b.0, b.1, inl (x.0, x.1, omega (arith, Left-after r b.0 (i + 1) (x.1 + 1) b.2), x.3, b.2, x.5))
      ]
  Left-goes (link f a r g s) (inl p) i j (inr x) =
      elim (Left-goes r p i x.1 x.3) [
        | inr b ↦ inr (inl b.0, b.1, inr (x.0, x.1, x.2, b.2, x.4, x.5))
        | inl b ↦
            elim (Match-begins g x.1 x.2 x.4) [
              | inr d ↦ inr (inr (inl d.0), (b.1, x.0, d.1), (x.2, subst (λ m. Left holds g d.0 m x.2) b.0 d.2, x.5))
              | inl d ↦
                  elim (Match-begins s x.2 j x.5) [
                    | inl e ↦ inl (sym e.0 ∙ sym d.0 ∙ b.0, (b.1, inl (x.0, d.1, e.1)))
                    | inr e ↦
                        inr (
                          inr (inr e.0),
                          (b.1, inl (x.0, d.1, e.1)),
                          subst (λ m. Left holds s e.0 m j) (sym d.0 ∙ b.0) e.2,
                        )
                  ]
            ]
      ]
  Left-goes (link f a r g s) (inr (inl q)) i j h =
      elim (Left-goes g q i h.0 h.1) [
        | inl b ↦
            elim (Match-begins s h.0 j h.2) [
              | inl d ↦ inl (sym d.0 ∙ b.0, (b.1, d.1))
              | inr d ↦ inr (inr (inr d.0), (b.1, d.1), subst (λ m. Left holds s d.0 m j) b.0 d.2)
            ]
        | inr b ↦ inr (inr (inl b.0), b.1, (h.0, b.2, h.2))
      ]
  Left-goes (link f a r g s) (inr (inr t)) i j h =
      elim (Left-goes s t i j h) [ inl b ↦ inl b | inr b ↦ inr (inr (inr b.0), b.1, b.2) ]

  -- what goes on so is left
  pub goes-Left : (r : Plan B) (t : PlanState r) (i j : ℕ) → Goes r t i j → Left holds r t i j
  goes-Left (tick b) t i j (inl a) = a
  goes-Left (tick b) t i j (inr a) = absurd a.1
  goes-Left skip t i j h = absurd t
  goes-Left (any r s) (inl p) i j (inl a) = goes-Left r p i j (inl a)
  goes-Left (any r s) (inl p) i j (inr (inl u, st, le)) = goes-Left r p i j (inr (u, st, le))
  goes-Left (any r s) (inl p) i j (inr (inr u, st, le)) = absurd st
  goes-Left (any r s) (inr q) i j (inl a) = goes-Left s q i j (inl a)
  goes-Left (any r s) (inr q) i j (inr (inl u, st, le)) = absurd st
  goes-Left (any r s) (inr q) i j (inr (inr u, st, le)) = goes-Left s q i j (inr (u, st, le))
  goes-Left (all r s) (inl t) i j (inl a) =
      (j, j, goes-Left r t.0 i j (inl (a.0, a.1.0)), goes-Left s t.1 i j (inl (a.0, a.1.1)), omega arith)
  goes-Left (all r s) (inl t) i j (inr (inl u, st, le)) =
      (le.0, le.1, goes-Left r t.0 i le.0 (inr (u.0, st.0, le.2)), goes-Left s t.1 i le.1 (inr (u.1, st.1, le.3)), le.4)
  goes-Left (all r s) (inl t) i j (inr (inr (inl u), st, le)) = (
    j,
    i + 1,
    goes-Left r t.0 i j (inr (u, st.0, le)),
    goes-Left s t.1 i (i + 1) (inl (refl, st.1)),
    omega (arith, Left-after r u (i + 1) j le),
  )
  goes-Left (all r s) (inl t) i j (inr (inr (inr u), st, le)) = (
    i + 1,
    j,
    goes-Left r t.0 i (i + 1) (inl (refl, st.0)),
    goes-Left s t.1 i j (inr (u, st.1, le)),
    omega (arith, Left-after s u (i + 1) j le),
  )
  goes-Left (all r s) (inr (inl p)) i j (inl a) = goes-Left r p i j (inl a)
  goes-Left (all r s) (inr (inl p)) i j (inr (inl u, st, le)) = absurd st
  goes-Left (all r s) (inr (inl p)) i j (inr (inr (inl u), st, le)) = goes-Left r p i j (inr (u, st, le))
  goes-Left (all r s) (inr (inl p)) i j (inr (inr (inr u), st, le)) = absurd st
  goes-Left (all r s) (inr (inr q)) i j (inl a) = goes-Left s q i j (inl a)
  goes-Left (all r s) (inr (inr q)) i j (inr (inl u, st, le)) = absurd st
  goes-Left (all r s) (inr (inr q)) i j (inr (inr (inl u), st, le)) = absurd st
  goes-Left (all r s) (inr (inr q)) i j (inr (inr (inr u), st, le)) = goes-Left s q i j (inr (u, st, le))
  goes-Left (pair r s) t i j (inl a) =
      (goes-Left r t.0 i j (inl (a.0, a.1.0)), goes-Left s t.1 i j (inl (a.0, a.1.1)))
  goes-Left (pair r s) t i j (inr a) =
      (goes-Left r t.0 i j (inr (a.0.0, a.1.0, a.2.0)), goes-Left s t.1 i j (inr (a.0.1, a.1.1, a.2.1)))
  goes-Left (under b r) p i j (inl a) = (
    goes-Left r p i j (inl (a.0, a.1.0)),
    λ k from below. let e : i ≡ k =
        omega (arith, a.0) in subst (λ n. IsTrue (holds b n)) e a.1.1,
  )
  goes-Left (under b r) p i j (inr a) = (
    goes-Left r p i j (inr (a.0, a.1.0, a.2.0)),
    λ k from below. elim (cases_eq i k) [
      | inl e ↦ subst (λ n. IsTrue (holds b n)) e a.1.1
      | inr ne ↦ a.2.1 k (omega arith) below
    ],
  )
  goes-Left (loop r least most) t i j (inl a) =
      elim a.1.3 [
        | inl le ↦ (j, goes-Left r t.1 i j (inl (a.0, a.1.0)), (0, omega (arith, le), omega (arith, a.1.1), refl))
        | inr n ↦ (
          j,
          goes-Left r t.1 i j (inl (a.0, a.1.0)),
          (
            most - (t.0 + 1),
            omega (arith, a.1.1, a.1.2),
            omega (arith, a.1.1),
            Nullable-Chain (Matches holds (plan_sequence r)) (Nullable-Match r n) (most - (t.0 + 1)) j,
          ),
        )
      ]
  goes-Left (loop r least most) t i j (inr (u, inl st, le)) = (
    le.0,
    goes-Left r t.1 i le.0 (inr (u.1, st.1, le.1)),
    (le.2.0, omega (arith, st.0, le.2.1), omega (arith, st.0, le.2.2), le.2.3),
  )
  goes-Left (loop r least most) t i j (inr (u, inr st, le)) =
      let front =
      Chain-front (Matches holds (plan_sequence r)) le.2.0 (i + 1) le.0 j (First-Match r u.1 (i + 1) le.0 st.4 le.1)
      le.2.3 in
      let gap = u.0 - (t.0 + 1) in
      let empties : (gap ≡ 0) ⊎ Matches holds (plan_sequence r) (i + 1) (i + 1) =
      elim st.3 [ inl z ↦ inl (omega (arith, z)) | inr n ↦ inr (Nullable-Match r n (i + 1)) ] in (
        i + 1,
        goes-Left r t.1 i (i + 1) (inl (refl, st.0)),
        (
          gap + suc le.2.0,
          omega (arith, le.2.1, st.1),
          omega (arith, le.2.2, st.1),
          Chain-fronts (Matches holds (plan_sequence r)) gap (suc le.2.0) (i + 1) j empties front,
        ),
      )
  goes-Left (link f a r g s) (inl p) i j (inl b) =
      elim b.1.1 [
        | inl n ↦ inr (n.0, j, j, goes-Left r p i j (inl (b.0, b.1.0)), Nullable-Match g n.1 j, Nullable-Match s n.2 j)
        | inr n ↦
            let rest = goes-Left s n.1 i j (inl (b.0, n.3)) in
            inl (
              n.0,
              i,
              omega arith,
              Left-after s n.1 i j rest,
              goes-Left r p i (i + 1) (inl (refl, b.1.0)),
              First-Match s n.1 i j n.2 rest,
            )
      ]
  goes-Left (link f a r g s) (inl p) i j (inr (inl u, st, le)) =
      elim le [
        | inl x ↦ inl (x.0, x.1, omega (arith, x.2), x.3, goes-Left r p i (x.1 + 1) (inr (u, st, x.4)), x.5)
        | inr x ↦ inr (x.0, x.1, x.2, goes-Left r p i x.1 (inr (u, st, x.3)), x.4, x.5)
      ]
  goes-Left (link f a r g s) (inl p) i j (inr (inr (inl u), st, le)) =
      inr (st.1, i + 1, le.0, goes-Left r p i (i + 1) (inl (refl, st.0)), First-Match g u (i + 1) le.0 st.2 le.1, le.2)
  goes-Left (link f a r g s) (inl p) i j (inr (inr (inr u), st, le)) =
      elim st.1 [
        | inl n ↦ inr (
          n.0,
          i + 1,
          i + 1,
          goes-Left r p i (i + 1) (inl (refl, st.0)),
          Nullable-Match g n.1 (i + 1),
          First-Match s u (i + 1) j n.2 le,
        )
        | inr n ↦
            let rest = goes-Left s n.1 i j (inr (u, n.3, le)) in
            inl (
              n.0,
              i,
              omega arith,
              Left-after s n.1 i j rest,
              goes-Left r p i (i + 1) (inl (refl, st.0)),
              First-Match s n.1 i j n.2 rest,
            )
      ]
  goes-Left (link f a r g s) (inr (inl q)) i j (inl b) =
      (j, goes-Left g q i j (inl (b.0, b.1.0)), Nullable-Match s b.1.1 j)
  goes-Left (link f a r g s) (inr (inl q)) i j (inr (inl u, st, le)) = absurd st
  goes-Left (link f a r g s) (inr (inl q)) i j (inr (inr (inl u), st, le)) =
      (le.0, goes-Left g q i le.0 (inr (u, st, le.1)), le.2)
  goes-Left (link f a r g s) (inr (inl q)) i j (inr (inr (inr u), st, le)) =
      (i + 1, goes-Left g q i (i + 1) (inl (refl, st.0)), First-Match s u (i + 1) j st.1 le)
  goes-Left (link f a r g s) (inr (inr t)) i j (inl b) = goes-Left s t i j (inl b)
  goes-Left (link f a r g s) (inr (inr t)) i j (inr (inl u, st, le)) = absurd st
  goes-Left (link f a r g s) (inr (inr t)) i j (inr (inr (inl u), st, le)) = absurd st
  goes-Left (link f a r g s) (inr (inr t)) i j (inr (inr (inr u), st, le)) = goes-Left s t i j (inr (u, st, le))

  -- a match that goes on past n ticks stands in a state there
  pub Match-At : (r : Plan B) (c n j : ℕ) → c + n < j → Matches holds (plan_sequence r) c j → (t : PlanState r)
      × At holds r c n t
      × Left holds r t (c + n) j
  Match-At r c zero j past h = elim (Match-begins r c j h) [
    | inl a ↦ absurd (omega (arith, a.0))
    | inr a ↦ let e : c ≡ c + 0 = omega arith in (a.0, a.1, subst (λ k. Left holds r a.0 k j) e a.2)
  ]
  Match-At r c (suc n) j past h =
      let before = Match-At r c n j (omega arith) h in
      elim (Left-goes r before.0 (c + n) j before.2) [
        | inl a ↦ absurd (omega (arith, a.0))
        | inr a ↦
            let e : c + n + 1 ≡ c + suc n = omega arith in
            (a.0, (before.0, before.1, a.1), subst (λ k. Left holds r a.0 k j) e a.2)
      ]

  pub At-Match : (r : Plan B) (c n j : ℕ) (t : PlanState r) → At holds r c n t → Left holds r t (c + n) j
      → Matches holds (plan_sequence r) c j
  At-Match r c zero j t at h =
      let e : c + 0 ≡ c = omega arith in First-Match r t c j at (subst (λ k. Left holds r t k j) e h)
  At-Match r c (suc n) j t at h =
      let e : c + suc n ≡ c + n + 1 = omega arith in
      At-Match r c n j at.0 at.1 (goes-Left r at.0 (c + n) j (inr (t, at.2, subst (λ k. Left holds r t k j) e h)))

  -- a match ends at a tick where a state ends one there
  pub Match-ends : (r : Plan B) (c n : ℕ) → Matches holds (plan_sequence r) c (c + n + 1) → (t : PlanState r)
      × At holds r c n t
      × Ends holds r t (c + n)
  Match-ends r c n h =
      let here = Match-At r c n (c + n + 1) (omega arith) h in
      elim (Left-goes r here.0 (c + n) (c + n + 1) here.2) [
        | inl a ↦ (here.0, here.1, a.1)
        | inr a ↦ absurd (omega (arith, Left-after r a.0 (c + n + 1) (c + n + 1) a.2))
      ]

  pub ends-Match : (r : Plan B) (c n : ℕ) (t : PlanState r) → At holds r c n t → Ends holds r t (c + n)
      → Matches holds (plan_sequence r) c (c + n + 1)
  ends-Match r c n t at ends = At-Match r c n (c + n + 1) t at (goes-Left r t (c + n) (c + n + 1) (inl (refl, ends)))
