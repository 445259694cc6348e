-- The two letters that may follow the ticks that were seen, and what matches under them.
use Rattle.std.proofs.Common.{inl, inr, ℕ, zero, suc, ◌+◌, ◌<◌, ◌≤◌, Bool, max}
use Rattle.std.proofs.Common.{nat_le, ◌⊎◌, arith}
use Rattle.std.specs.Prelude.{nat_lt, IsTrue}
use Rattle.std.proofs.lemmas.Bool.{or_cases, or_right, and_parts, and_from, leb-true, ltb-true, lt-ltb}
use Rattle.std.proofs.lemmas.Bool.{cases_Bool, both_ways}
use Rattle.assertions.specs.Quantifiers.{some_in}
use Rattle.assertions.specs.Segments.{Seq, one, none, chop, fuse, either, both, meet, during, times, Chain}
use Rattle.assertions.specs.Segments.{sat, is_match, Matches, longest}
use Rattle.assertions.proofs.Quantifiers.{some_in-found, some_in-true}
use Rattle.assertions.proofs.Segments.{Matches-forward, Matches-longest, Matches-mono}
use Rattle.assertions.proofs.Segments.{is_match-Matches, Matches-is_match}
use Rattle.import_properties.specs.Conditions.{unsat}

-- a chain of what ends by n, or moves no further than where it began
Chain-within : (P : ℕ → ℕ → Type 0) (n : ℕ) → ((i j : ℕ) → P i j → j ≤ max i n) → (count i j : ℕ)
    → Chain P count i j → j ≤ max i n
Chain-within P n within zero i j c = omega (arith, c)
Chain-within P n within (suc count) i j c =
    omega (arith, Chain-within P n within count i c.0 c.1, within c.0 j c.2)

Chain-below : (P Q : ℕ → ℕ → Type 0) (n : ℕ) → ((i j : ℕ) → P i j → i ≤ j) → ((i j : ℕ) → j ≤ n → P i j → Q i j)
    → (count i j : ℕ) → j ≤ n → Chain P count i j → Chain Q count i j
Chain-below P Q n forward each zero i j le c = c
Chain-below P Q n forward each (suc count) i j le c = (
  c.0,
  Chain-below P Q n forward each count i c.0 (omega (arith, le, forward c.0 j c.2)) c.1,
  each c.0 j le c.2,
)

module _ (B : Type 0) (value : B → ℕ → Bool) (n : ℕ) where
  pub unsat-sat : (b : B) (k : ℕ) → IsTrue (unsat value n b k) → IsTrue (sat value n b k)
  unsat-sat b k t = or_right (nat_le n k) (value b k) (and_parts (nat_lt k n) (value b k) t).1

  pub sat-unsat : (b : B) (k : ℕ) → k < n → IsTrue (sat value n b k) → IsTrue (unsat value n b k)
  sat-unsat b k below t = elim (or_cases (nat_le n k) (value b k) t) [
    | inl late ↦ absurd (omega (arith, below, leb-true n k late))
    | inr here ↦ and_from (nat_lt k n) (value b k) (lt-ltb k n below) here
  ]

  -- what matches where nothing follows matches where everything does
  pub Matches-unsat-sat : (r : Seq B) (i j : ℕ) → Matches (unsat value n) r i j → Matches (sat value n) r i j
  Matches-unsat-sat r i j h = Matches-mono B (unsat value n) (sat value n) unsat-sat r i j h

  -- where nothing follows, no match goes on after what was seen
  Matches-within : (r : Seq B) (i j : ℕ) → Matches (unsat value n) r i j → j ≤ max i n
  Matches-within (one b) i j h =
      omega (arith, h.0, ltb-true i n (and_parts (nat_lt i n) (value b i) h.1).0)
  Matches-within none i j h = omega (arith, h)
  Matches-within (chop r s) i j h = omega (arith, Matches-within r i h.0 h.1, Matches-within s h.0 j h.2)
  Matches-within (fuse r s) i j h = omega (arith, h.2, Matches-within r i (h.0 + 1) h.3, Matches-within s h.0 j h.4)
  Matches-within (either r s) i j h = elim h [ inl a ↦ Matches-within r i j a | inr a ↦ Matches-within s i j a ]
  Matches-within (both r s) i j h =
      omega (arith, Matches-within r i h.0 h.2, Matches-within s i h.1 h.3, h.4)
  Matches-within (meet r s) i j h = Matches-within r i j h.0
  Matches-within (during b r) i j h = Matches-within r i j h.0
  Matches-within (times r least most) i j h =
      Chain-within (Matches (unsat value n) r) n (Matches-within r) h.0 i j h.3

  pub unsat-ends : (r : Seq B) (i j : ℕ) → i < j → Matches (unsat value n) r i j → j ≤ n
  unsat-ends r i j some h = omega (arith, some, Matches-within r i j h)

  -- what matches by n needs nothing that follows
  pub Matches-sat-unsat : (r : Seq B) (i j : ℕ) → j ≤ n → Matches (sat value n) r i j → Matches (unsat value n) r i j
  Matches-sat-unsat (one b) i j le h = (h.0, sat-unsat b i (omega (arith, le, h.0)) h.1)
  Matches-sat-unsat none i j le h = h
  Matches-sat-unsat (chop r s) i j le h = (
    h.0,
    Matches-sat-unsat r i h.0 (omega (arith, le, Matches-forward B (sat value n) s h.0 j h.2)) h.1,
    Matches-sat-unsat s h.0 j le h.2,
  )
  Matches-sat-unsat (fuse r s) i j le h = (
    h.0,
    h.1,
    h.2,
    Matches-sat-unsat r i (h.0 + 1) (omega (arith, le, h.2)) h.3,
    Matches-sat-unsat s h.0 j le h.4,
  )
  Matches-sat-unsat (either r s) i j le h =
      elim h [ inl a ↦ inl (Matches-sat-unsat r i j le a) | inr a ↦ inr (Matches-sat-unsat s i j le a) ]
  Matches-sat-unsat (both r s) i j le h = (
    h.0,
    h.1,
    Matches-sat-unsat r i h.0 (omega (arith, le, h.4)) h.2,
    Matches-sat-unsat s i h.1 (omega (arith, le, h.4)) h.3,
    h.4,
  )
  Matches-sat-unsat (meet r s) i j le h = (Matches-sat-unsat r i j le h.0, Matches-sat-unsat s i j le h.1)
  Matches-sat-unsat (during b r) i j le h =
      (Matches-sat-unsat r i j le h.0, λ k from below. sat-unsat b k (omega (arith, le, below)) (h.1 k from below))
  Matches-sat-unsat (times r least most) i j le h = (
    h.0,
    h.1,
    h.2,
    Chain-below (Matches (sat value n) r) (Matches (unsat value n) r) n (Matches-forward B (sat value n) r)
        (λ i j le h. Matches-sat-unsat r i j le h) h.0 i j le h.3,
  )

-- a match of a tick or more begins at c, or none does
module _ (B : Type 0) (holds : B → ℕ → Bool) (r : Seq B) (c : ℕ) where
  pub match_or_none : ((j : ℕ) × (c < j) × Matches holds r c j) ⊎ ((j : ℕ) → c < j → Matches holds r c j → ⊥)
  match_or_none =
      elim (cases_Bool (some_in (c + 1) (c + longest r + 1) (λ j. is_match holds r c j))) [
        | inl on ↦
            let f = some_in-found (c + 1) (c + longest r + 1) (λ j. is_match holds r c j) on in
            inl (f.0, omega (arith, f.1), is_match-Matches B holds r c f.0 f.3)
        | inr off ↦ inr (λ j some m.
            both_ways _ off
            (some_in-true (c + 1) (c + longest r + 1) (λ j. is_match holds r c j) j (omega (arith, some))
            (omega (arith, Matches-longest B holds r c j m)) (Matches-is_match B holds r c j m)))
      ]
