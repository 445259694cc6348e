-- How many ticks the matches of a sequence take, were every boolean true: at any tick, whatever the booleans.
use Rattle.std.proofs.Common.{◌≡◌, ◌∙◌, inl, inr, ℕ, zero, suc, ◌+◌, ◌-◌, ◌≤◌, refl, sym, ap, subst, arith}
use Rattle.std.specs.Prelude.{IsTrue}
use Rattle.assertions.specs.Segments.{Seq, one, none, chop, fuse, either, both, meet, during, times, Chain, Matches}
use Rattle.assertions.specs.Segments.{always}
use Rattle.assertions.specs.Written.{Written, boolean, delay, lead, repeat, or, and, intersect, throughout, one_of}
use Rattle.assertions.specs.Written.{after, later, kernel}
use Rattle.assertions.specs.Emptiness.{bare, lasts}
use Rattle.assertions.proofs.Segments.{Matches-forward, is_match-Matches, Matches-is_match, Chain-forward, Chain-mono}

-- a match so many ticks later
Chain-on : (P Q : ℕ → ℕ → Type 0) (c : ℕ) → ((i j : ℕ) → P i j → Q (c + i) (c + j)) → (n i j : ℕ) → Chain P n i j
    → Chain Q n (c + i) (c + j)
Chain-on P Q c each zero i j h = ap (λ n. c + n) h
Chain-on P Q c each (suc n) i j h = (c + h.0, Chain-on P Q c each n i h.0 h.1, each h.0 j h.2)

-- and so many ticks earlier
Chain-back : (P Q : ℕ → ℕ → Type 0) (c : ℕ) → ((i j : ℕ) → P i j → i ≤ j)
    → ((i j : ℕ) → c ≤ i → P i j → Q (i - c) (j - c)) → (n i j : ℕ) → c ≤ i → Chain P n i j
    → Chain Q n (i - c) (j - c)
Chain-back P Q c forward each zero i j le h = ap (λ n. n - c) h
Chain-back P Q c forward each (suc n) i j le h = (
  h.0 - c,
  Chain-back P Q c forward each n i h.0 le h.1,
  each h.0 j (omega (arith, Chain-forward P forward n i h.0 h.1)) h.2,
)

module _ (B : Type 0) where
  pub Matches-on : (r : Seq B) (c i j : ℕ) → Matches always r i j → Matches always r (c + i) (c + j)
  Matches-on (one b) c i j h = (omega (arith, h.0), refl)
  Matches-on none c i j h = ap (λ n. c + n) h
  Matches-on (chop r s) c i j h = (c + h.0, Matches-on r c i h.0 h.1, Matches-on s c h.0 j h.2)
  Matches-on (fuse r s) c i j h =
      let e : c + (h.0 + 1) ≡ c + h.0 + 1 = omega arith in (
        c + h.0,
        omega (arith, h.1),
        omega (arith, h.2),
        subst (λ m. Matches always r (c + i) m) e (Matches-on r c i (h.0 + 1) h.3),
        Matches-on s c h.0 j h.4,
      )
  Matches-on (either r s) c i j h = elim h [ inl a ↦ inl (Matches-on r c i j a) | inr a ↦ inr (Matches-on s c i j a) ]
  Matches-on (both r s) c i j h =
      (c + h.0, c + h.1, Matches-on r c i h.0 h.2, Matches-on s c i h.1 h.3, omega (arith, h.4))
  Matches-on (meet r s) c i j h = (Matches-on r c i j h.0, Matches-on s c i j h.1)
  Matches-on (during b r) c i j h = (Matches-on r c i j h.0, λ k from below. refl)
  Matches-on (times r least most) c i j h =
      (h.0, h.1, h.2, Chain-on (Matches always r) (Matches always r) c (Matches-on r c) h.0 i j h.3)

  pub Matches-back : (r : Seq B) (c i j : ℕ) → c ≤ i → Matches always r i j → Matches always r (i - c) (j - c)
  Matches-back (one b) c i j le h = (omega (arith, h.0), refl)
  Matches-back none c i j le h = ap (λ n. n - c) h
  Matches-back (chop r s) c i j le h = (
    h.0 - c,
    Matches-back r c i h.0 le h.1,
    Matches-back s c h.0 j (omega (arith, Matches-forward B always r i h.0 h.1)) h.2,
  )
  Matches-back (fuse r s) c i j le h =
      let e : h.0 + 1 - c ≡ h.0 - c + 1 = omega (arith, h.1) in (
        h.0 - c,
        omega (arith, h.1),
        omega (arith, h.1, h.2),
        subst (λ m. Matches always r (i - c) m) e (Matches-back r c i (h.0 + 1) le h.3),
        Matches-back s c h.0 j (omega (arith, h.1)) h.4,
      )
  Matches-back (either r s) c i j le h =
      elim h [ inl a ↦ inl (Matches-back r c i j le a) | inr a ↦ inr (Matches-back s c i j le a) ]
  Matches-back (both r s) c i j le h = (
    h.0 - c,
    h.1 - c,
    Matches-back r c i h.0 le h.2,
    Matches-back s c i h.1 le h.3,
    omega (arith, h.4),
  )
  Matches-back (meet r s) c i j le h = (Matches-back r c i j le h.0, Matches-back s c i j le h.1)
  Matches-back (during b r) c i j le h = (Matches-back r c i j le h.0, λ k from below. refl)
  Matches-back (times r least most) c i j le h = (
    h.0,
    h.1,
    h.2,
    Chain-back (Matches always r) (Matches always r) c (Matches-forward B always r) (Matches-back r c) h.0 i j le h.3,
  )

  -- the same over booleans of which there is one
  plain : Seq B → Seq (Unit {0})
  plain (one b) = one tt
  plain none = none
  plain (chop r s) = chop (plain r) (plain s)
  plain (fuse r s) = fuse (plain r) (plain s)
  plain (either r s) = either (plain r) (plain s)
  plain (both r s) = both (plain r) (plain s)
  plain (meet r s) = meet (plain r) (plain s)
  plain (during b r) = during tt (plain r)
  plain (times r least most) = times (plain r) least most

  to-plain : (r : Seq B) (i j : ℕ) → Matches always r i j → Matches always (plain r) i j
  unfolding plain
  to-plain (one b) i j h = h
  to-plain none i j h = h
  to-plain (chop r s) i j h = (h.0, to-plain r i h.0 h.1, to-plain s h.0 j h.2)
  to-plain (fuse r s) i j h = (h.0, h.1, h.2, to-plain r i (h.0 + 1) h.3, to-plain s h.0 j h.4)
  to-plain (either r s) i j h = elim h [ inl a ↦ inl (to-plain r i j a) | inr a ↦ inr (to-plain s i j a) ]
  to-plain (both r s) i j h = (h.0, h.1, to-plain r i h.0 h.2, to-plain s i h.1 h.3, h.4)
  to-plain (meet r s) i j h = (to-plain r i j h.0, to-plain s i j h.1)
  to-plain (during b r) i j h = (to-plain r i j h.0, h.1)
  to-plain (times r least most) i j h =
      (h.0, h.1, h.2, Chain-mono (Matches always r) (Matches always (plain r)) (to-plain r) h.0 i j h.3)

  from-plain : (r : Seq B) (i j : ℕ) → Matches always (plain r) i j → Matches always r i j
  unfolding plain
  from-plain (one b) i j h = h
  from-plain none i j h = h
  from-plain (chop r s) i j h = (h.0, from-plain r i h.0 h.1, from-plain s h.0 j h.2)
  from-plain (fuse r s) i j h = (h.0, h.1, h.2, from-plain r i (h.0 + 1) h.3, from-plain s h.0 j h.4)
  from-plain (either r s) i j h = elim h [ inl a ↦ inl (from-plain r i j a) | inr a ↦ inr (from-plain s i j a) ]
  from-plain (both r s) i j h = (h.0, h.1, from-plain r i h.0 h.2, from-plain s i h.1 h.3, h.4)
  from-plain (meet r s) i j h = (from-plain r i j h.0, from-plain s i j h.1)
  from-plain (during b r) i j h = (from-plain r i j h.0, h.1)
  from-plain (times r least most) i j h =
      (h.0, h.1, h.2, Chain-mono (Matches always (plain r)) (Matches always r) (from-plain r) h.0 i j h.3)

  plain-one_of : (form : ℕ → Seq B) (other : ℕ → Seq (Unit {0})) → ((k : ℕ) → plain (form k) ≡ other k)
      → (first more : ℕ) → plain (one_of first more form) ≡ one_of first more other
  unfolding plain
  plain-one_of form other each first zero = each first
  plain-one_of form other each first (suc more) =
      ap (λ r. either r (plain (one_of (first + 1) more form))) (each first)
      ∙ ap (λ r. either (other first) r) (plain-one_of form other each (first + 1) more)

  module _ (b : B) where
    plain-after : (r s : Seq B) (n : ℕ) → plain (after b r s n) ≡ after tt (plain r) (plain s) n
    unfolding plain
    plain-after r s zero = refl
    plain-after r s (suc zero) = refl
    plain-after r s (suc (suc n)) = refl

    plain-later : (s : Seq B) (n : ℕ) → plain (later b s n) ≡ later tt (plain s) n
    unfolding plain
    plain-later s zero = refl
    plain-later s (suc n) = refl

    plain-kernel : (w : Written B) → plain (kernel b w) ≡ kernel tt (bare w)
    unfolding plain
    plain-kernel (boolean c) = refl
    plain-kernel (delay r least most s) =
        plain-one_of (after b (kernel b r) (kernel b s)) (after tt (kernel tt (bare r)) (kernel tt (bare s)))
        (λ k. plain-after (kernel b r) (kernel b s) k
        ∙ ap (λ q. after tt q (plain (kernel b s)) k) (plain-kernel r)
        ∙ ap (λ q. after tt (kernel tt (bare r)) q k) (plain-kernel s))
        least (most - least)
    plain-kernel (lead least most s) =
        plain-one_of (later b (kernel b s)) (later tt (kernel tt (bare s)))
        (λ k. plain-later (kernel b s) k ∙ ap (λ q. later tt q k) (plain-kernel s)) least (most - least)
    plain-kernel (repeat r least most) = ap (λ q. times q least most) (plain-kernel r)
    plain-kernel (or r s) =
        ap (λ q. either q (plain (kernel b s))) (plain-kernel r)
        ∙ ap (λ q. either (kernel tt (bare r)) q) (plain-kernel s)
    plain-kernel (and r s) =
        ap (λ q. both q (plain (kernel b s))) (plain-kernel r)
        ∙ ap (λ q. both (kernel tt (bare r)) q) (plain-kernel s)
    plain-kernel (intersect r s) =
        ap (λ q. meet q (plain (kernel b s))) (plain-kernel r)
        ∙ ap (λ q. meet (kernel tt (bare r)) q) (plain-kernel s)
    plain-kernel (throughout c r) = ap (λ q. during tt q) (plain-kernel r)

    -- a match of so many ticks begins at every tick
    pub lasts-Matches : (w : Written B) (i n : ℕ) → IsTrue (lasts w n) → Matches always (kernel b w) i (i + n)
    unfolding lasts
    lasts-Matches w i n t =
        let here : Matches always (plain (kernel b w)) 0 n =
        subst (λ q. Matches always q 0 n) (sym (plain-kernel w))
        (is_match-Matches (Unit {0}) always (kernel tt (bare w)) 0 n t) in
        let e : i + 0 ≡ i = omega arith in
        subst (λ m. Matches always (kernel b w) m (i + n)) e
        (Matches-on (kernel b w) i 0 n (from-plain (kernel b w) 0 n here))

    -- and each match takes as many as one may
    pub Matches-lasts : (w : Written B) (i j : ℕ) → Matches always (kernel b w) i j → IsTrue (lasts w (j - i))
    unfolding lasts
    Matches-lasts w i j h =
        let back = Matches-back (kernel b w) i i j (omega arith) h in
        let e : i - i ≡ 0 = omega arith in
        let here : Matches always (kernel b w) 0 (j - i) =
        subst (λ m. Matches always (kernel b w) m (j - i)) e back in
        Matches-is_match (Unit {0}) always (kernel tt (bare w)) 0 (j - i)
        (subst (λ q. Matches always q 0 (j - i)) (plain-kernel w) (to-plain (kernel b w) 0 (j - i) here))
