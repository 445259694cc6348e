-- A match looks at its own ticks alone.
use Rattle.std.proofs.Common.{inl, inr, ℕ, zero, suc, ◌+◌, ◌<◌, ◌≤◌, Bool, arith}
use Rattle.std.specs.Prelude.{IsTrue, nat_le}
use Rattle.std.proofs.lemmas.Bool.{or_cases, or_left, or_right, leb-true, le-leb}
use Rattle.assertions.specs.Segments.{Seq, one, none, chop, fuse, either, both, meet, during, times, Chain, sat}
use Rattle.assertions.specs.Segments.{Matches}
use Rattle.assertions.proofs.Segments.{Matches-forward, Chain-forward}

Chain-each : (P Q : ℕ → ℕ → Type 0) → ((i j : ℕ) → P i j → i ≤ j) → (n i j : ℕ)
    → ((a b : ℕ) → i ≤ a → b ≤ j → P a b → Q a b) → Chain P n i j → Chain Q n i j
Chain-each P Q forward zero i j each h = h
Chain-each P Q forward (suc n) i j each h = (
  h.0,
  Chain-each P Q forward n i h.0 (λ a b from to. each a b from (omega (arith, forward h.0 j h.2))) h.1,
  each h.0 j (Chain-forward P forward n i h.0 h.1) (omega arith) h.2,
)

module _ (B : Type 0) (h g : B → ℕ → Bool) where
  -- what is true at one of these ticks is true there in the other
  abbrev pub Agrees : ℕ → ℕ → Type 0
  Agrees i j = (b : B) (k : ℕ) → i ≤ k → k < j → IsTrue (h b k) → IsTrue (g b k)

  pub Matches-local : (r : Seq B) (i j : ℕ) → Agrees i j → Matches h r i j → Matches g r i j
  Matches-local (one b) i j agrees m = (m.0, agrees b i (omega arith) (omega (arith, m.0)) m.1)
  Matches-local none i j agrees m = m
  Matches-local (chop r s) i j agrees m = (
    m.0,
    Matches-local r i m.0 (λ b k from below. agrees b k from (omega (arith, Matches-forward B h s m.0 j m.2))) m.1,
    Matches-local s m.0 j (λ b k from below. agrees b k (omega (arith, Matches-forward B h r i m.0 m.1)) below) m.2,
  )
  Matches-local (fuse r s) i j agrees m = (
    m.0,
    m.1,
    m.2,
    Matches-local r i (m.0 + 1) (λ b k from below. agrees b k from (omega (arith, m.2))) m.3,
    Matches-local s m.0 j (λ b k from below. agrees b k (omega (arith, m.1)) below) m.4,
  )
  Matches-local (either r s) i j agrees m =
      elim m [ inl m ↦ inl (Matches-local r i j agrees m) | inr m ↦ inr (Matches-local s i j agrees m) ]
  Matches-local (both r s) i j agrees m = (
    m.0,
    m.1,
    Matches-local r i m.0 (λ b k from below. agrees b k from (omega (arith, m.4))) m.2,
    Matches-local s i m.1 (λ b k from below. agrees b k from (omega (arith, m.4))) m.3,
    m.4,
  )
  Matches-local (meet r s) i j agrees m = (Matches-local r i j agrees m.0, Matches-local s i j agrees m.1)
  Matches-local (during b r) i j agrees m =
      (Matches-local r i j agrees m.0, λ k from below. agrees b k from below (m.1 k from below))
  Matches-local (times r least most) i j agrees m = (
    m.0,
    m.1,
    m.2,
    Chain-each (Matches h r) (Matches g r) (Matches-forward B h r) m.0 i j
        (λ a b from to. Matches-local r a b (λ x k low high. agrees x k (omega arith) (omega arith)))
        m.3,
  )

module _ (B : Type 0) (value : B → ℕ → Bool) where
  -- what was seen is true by the letter
  pub seen-sat : (n : ℕ) (b : B) (k : ℕ) → IsTrue (value b k) → IsTrue (sat value n b k)
  seen-sat n b k h = or_right (nat_le n k) (value b k) h

  pub sat-seen : (n : ℕ) (b : B) (k : ℕ) → k < n → IsTrue (sat value n b k) → IsTrue (value b k)
  sat-seen n b k below h =
      elim (or_cases (nat_le n k) (value b k) h) [
        | inl late ↦ absurd (omega (arith, leb-true n k late))
        | inr seen ↦ seen
      ]

  pub sat-earlier : (m n : ℕ) (b : B) (k : ℕ) → m ≤ n → IsTrue (sat value n b k) → IsTrue (sat value m b k)
  sat-earlier m n b k le h =
      elim (or_cases (nat_le n k) (value b k) h) [
        | inl late ↦ or_left (nat_le m k) (value b k) (le-leb m k (omega (arith, leb-true n k late)))
        | inr seen ↦ or_right (nat_le m k) (value b k) seen
      ]

  -- a match that ends by n is one of what was seen
  pub Matches-seen : (r : Seq B) (n i j : ℕ) → j ≤ n → Matches (sat value n) r i j → Matches value r i j
  Matches-seen r n i j by = Matches-local B (sat value n) value r i j (λ b k from below. sat-seen n b k (omega arith))

  pub Matches-sat : (r : Seq B) (n i j : ℕ) → Matches value r i j → Matches (sat value n) r i j
  Matches-sat r n i j = Matches-local B value (sat value n) r i j (λ b k from below. seen-sat n b k)

  -- what is possible is possible before
  pub Matches-earlier : (r : Seq B) (m n i j : ℕ) → m ≤ n → Matches (sat value n) r i j → Matches (sat value m) r i j
  Matches-earlier r m n i j le =
      Matches-local B (sat value n) (sat value m) r i j (λ b k from below. sat-earlier m n b k le)
