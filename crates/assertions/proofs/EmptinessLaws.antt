-- The form tells which sequences match an empty segment, and the lengths of matches which match a tick or more.
use Rattle.std.proofs.Common.{◌≡◌, inl, inr, ◌⊎◌, ℕ, zero, suc, ◌+◌, ◌-◌, ◌<◌, ◌≤◌, Bool, false, ◌&&◌, ◌||◌, max}
use Rattle.std.proofs.Common.{nat_le, refl, subst, arith}
use Rattle.std.specs.Prelude.{IsTrue}
use Rattle.std.proofs.lemmas.Bool.{or_cases, or_left, or_right, and_parts, and_from, both_ways, false_from_ne_true}
use Rattle.std.proofs.lemmas.Bool.{cases_eq, cases_lt, le-leb, leb-true}
use Rattle.assertions.specs.Segments.{Seq, Chain, Matches, always, IsDegenerate}
use Rattle.assertions.specs.Written.{Written, boolean, delay, lead, repeat, or, and, intersect, throughout}
use Rattle.assertions.specs.Written.{after, later, kernel, weight, IsOrdered}
use Rattle.assertions.specs.Emptiness.{admits_empty, lasts, takes_ticks}
use Rattle.assertions.proofs.Quantifiers.{some_in-found, some_in-true}
use Rattle.assertions.proofs.Segments.{Matches-forward, Matches-longest}
use Rattle.assertions.proofs.WeightLaws.{weight_covers}
use Rattle.assertions.proofs.LengthLaws.{lasts-Matches, Matches-lasts}
use Rattle.assertions.proofs.RangeLaws.{one_of-found, one_of-matches, after-found, after-matches, later-found}
use Rattle.assertions.proofs.RangeLaws.{later-matches}

-- so many empty segments
empty_chain : (P : ℕ → ℕ → Type 0) (n i : ℕ) → P i i → Chain P n i i
empty_chain P zero i p = refl
empty_chain P (suc n) i p = (i, empty_chain P n i p, p)

chain_empty : (P : ℕ → ℕ → Type 0) → ((i j : ℕ) → P i j → i ≤ j) → (n i m : ℕ) → Chain P n i m → i ≤ m
chain_empty P forward zero i m c = omega (arith, c)
chain_empty P forward (suc n) i m c = omega (arith, chain_empty P forward n i c.0 c.1, forward c.0 m c.2)

-- the last of one or more segments that are empty together
last_empty : (P : ℕ → ℕ → Type 0) → ((i j : ℕ) → P i j → i ≤ j) → (n i : ℕ) → Chain P n i i → (n ≡ 0) ⊎ P i i
last_empty P forward zero i c = inl refl
last_empty P forward (suc n) i c =
    let e : c.0 ≡ i = omega (arith, chain_empty P forward n i c.0 c.1, forward c.0 i c.2) in
    inr (subst (λ m. P m i) e c.2)

module _ (B : Type 0) (holds : B → ℕ → Bool) (b : B) where
  after_empty : (r s : Seq B) (n i : ℕ) → Matches holds (after b r s n) i i → (n ≡ 1) × Matches holds r i i
      × Matches holds s i i
  after_empty r s zero i h = absurd (omega (arith, h.1, h.2))
  after_empty r s (suc n) i h =
      let g = after-found B holds b r s (suc n) i i (omega arith) h in
      let from : i ≤ g.0 = Matches-forward B holds r i g.0 g.1 in
      let to : g.0 + (suc n - 1) ≤ i = Matches-forward B holds s (g.0 + (suc n - 1)) i g.2 in
      let end : g.0 ≡ i = omega arith in
      let begin : g.0 + (suc n - 1) ≡ i = omega arith in
      (omega arith, subst (λ m. Matches holds r i m) end g.1, subst (λ m. Matches holds s m i) begin g.2)

  pub empty-Matches : (r : Written B) (i : ℕ) → IsOrdered r → IsTrue (admits_empty r) → Matches holds (kernel b r) i i
  empty-Matches (boolean c) i o t = cc
  empty-Matches (delay r least most s) i o t =
      let p = and_parts (nat_le least 1 && nat_le 1 most) (admits_empty r && admits_empty s) t in
      let range = and_parts (nat_le least 1) (nat_le 1 most) p.0 in
      let parts = and_parts (admits_empty r) (admits_empty s) p.1 in
      one_of-matches B holds (after b (kernel b r) (kernel b s)) least (most - least) i i 1 (leb-true least 1 range.0)
      (omega (arith, o.0, leb-true 1 most range.1))
      (i, empty-Matches r i o.1 parts.0, empty-Matches s i o.2 parts.1)
  empty-Matches (lead least most s) i o t =
      let p = and_parts (nat_le least 0) (admits_empty s) t in
      one_of-matches B holds (later b (kernel b s)) least (most - least) i i 0 (leb-true least 0 p.0) (omega arith)
      (empty-Matches s i o.1 p.1)
  empty-Matches (repeat r least most) i o t =
      elim (or_cases (nat_le least 0) (admits_empty r) t) [
        | inl none ↦ (0, leb-true least 0 none, omega arith, refl)
        | inr empty ↦
            (least, omega arith, o.0, empty_chain (Matches holds (kernel b r)) least i (empty-Matches r i o.1 empty))
      ]
  empty-Matches (or r s) i o t =
      elim (or_cases (admits_empty r) (admits_empty s) t) [
        | inl h ↦ inl (empty-Matches r i o.0 h)
        | inr h ↦ inr (empty-Matches s i o.1 h)
      ]
  empty-Matches (and r s) i o t =
      let p = and_parts (admits_empty r) (admits_empty s) t in
      (i, i, empty-Matches r i o.0 p.0, empty-Matches s i o.1 p.1, omega arith)
  empty-Matches (intersect r s) i o t =
      let p = and_parts (admits_empty r) (admits_empty s) t in
      (empty-Matches r i o.0 p.0, empty-Matches s i o.1 p.1)
  empty-Matches (throughout c r) i o t = (empty-Matches r i o t, λ k from below. absurd (omega arith))

  pub Matches-empty : (r : Written B) (i : ℕ) → IsOrdered r → Matches holds (kernel b r) i i → IsTrue (admits_empty r)
  Matches-empty (boolean c) i o h = absurd (omega (arith, h.0))
  Matches-empty (delay r least most s) i o h =
      let f = one_of-found B holds (after b (kernel b r) (kernel b s)) least (most - least) i i h in
      let g = after_empty (kernel b r) (kernel b s) f.0 i f.3 in
      and_from (nat_le least 1 && nat_le 1 most) (admits_empty r && admits_empty s)
      (and_from (nat_le least 1) (nat_le 1 most) (le-leb least 1 (omega (arith, f.1, g.0)))
      (le-leb 1 most (omega (arith, o.0, f.2, g.0))))
      (and_from (admits_empty r) (admits_empty s) (Matches-empty r i o.1 g.1) (Matches-empty s i o.2 g.2))
  Matches-empty (lead least most s) i o h =
      let f = one_of-found B holds (later b (kernel b s)) least (most - least) i i h in
      let rest = later-found B holds b (kernel b s) f.0 i i f.3 in
      let none : f.0 ≡ 0 = omega (arith, Matches-forward B holds (kernel b s) (i + f.0) i rest) in
      let here : i + f.0 ≡ i = omega arith in
      and_from (nat_le least 0) (admits_empty s) (le-leb least 0 (omega (arith, f.1)))
      (Matches-empty s i o.1 (subst (λ m. Matches holds (kernel b s) m i) here rest))
  Matches-empty (repeat r least most) i o h =
      elim (last_empty (Matches holds (kernel b r)) (Matches-forward B holds (kernel b r)) h.0 i h.3) [
        | inl none ↦ or_left (nat_le least 0) (admits_empty r) (le-leb least 0 (omega (arith, h.1)))
        | inr empty ↦ or_right (nat_le least 0) (admits_empty r) (Matches-empty r i o.1 empty)
      ]
  Matches-empty (or r s) i o h = elim h [
    | inl h ↦ or_left (admits_empty r) (admits_empty s) (Matches-empty r i o.0 h)
    | inr h ↦ or_right (admits_empty r) (admits_empty s) (Matches-empty s i o.1 h)
  ]
  Matches-empty (and r s) i o h =
      let r_from : i ≤ h.0 = Matches-forward B holds (kernel b r) i h.0 h.2 in
      let s_from : i ≤ h.1 = Matches-forward B holds (kernel b s) i h.1 h.3 in
      let r_end : h.0 ≡ i = omega (arith, h.4) in
      let s_end : h.1 ≡ i = omega (arith, h.4) in
      and_from (admits_empty r) (admits_empty s)
      (Matches-empty r i o.0 (subst (λ m. Matches holds (kernel b r) i m) r_end h.2))
      (Matches-empty s i o.1 (subst (λ m. Matches holds (kernel b s) i m) s_end h.3))
  Matches-empty (intersect r s) i o h =
      and_from (admits_empty r) (admits_empty s) (Matches-empty r i o.0 h.0) (Matches-empty s i o.1 h.1)
  Matches-empty (throughout c r) i o h = Matches-empty r i o h.0

module _ (B : Type 0) (b : B) where
  pub moves-takes : (r : Written B) → IsOrdered r → (i j : ℕ) → i < j → Matches always (kernel b r) i j
      → IsTrue (takes_ticks r)
  unfolding takes_ticks
  moves-takes r o i j lt h =
      some_in-true 1 (weight r + 1) (λ n. lasts r n) (j - i) (omega (arith, lt))
      (omega (arith, lt, Matches-longest B always (kernel b r) i j h, weight_covers B b r o))
      (Matches-lasts B b r i j h)

  pub takes-moves : (r : Written B) → IsTrue (takes_ticks r) → (i : ℕ) → (j : ℕ) × (i < j)
      × Matches always (kernel b r) i j
  unfolding takes_ticks
  takes-moves r t i =
      let f = some_in-found 1 (weight r + 1) (λ n. lasts r n) t in
      (i + f.0, omega (arith, f.1), lasts-Matches B b r i f.0 f.3)

  pub degenerate-none : (r : Written B) → IsDegenerate (kernel b r) → takes_ticks r ≡ false
  degenerate-none r h = false_from_ne_true _ (λ t. let m = takes-moves r t 0 in h m.0 m.1 m.2)

  pub none-degenerate : (r : Written B) → IsOrdered r → takes_ticks r ≡ false → IsDegenerate (kernel b r)
  none-degenerate r o e j some h = both_ways _ e (moves-takes r o 0 j some h)
