-- What is decided doesn't depend on where the attempt lies.
use Rattle.std.proofs.Common.{◌≡◌, inl, inr, ℕ, zero, suc, ◌+◌, ◌-◌, ◌<◌, ◌≤◌, Bool, true, false, Option, Some}
use Rattle.std.proofs.Common.{None, refl, sym}
use Rattle.std.proofs.Common.{subst, ◌∙◌, arith, nat_le}
use Rattle.std.specs.Prelude.{IsTrue}
use Rattle.std.proofs.lemmas.Bool.{or_cases, or_left, or_right, cases_lt, le-leb, leb-true}
use Rattle.assertions.specs.declared.decision.Decision.{Decision}
use Rattle.assertions.specs.declared.decision.Decision.TheVariants.{Held, Vacuously, Failed}
use Rattle.assertions.specs.Segments.{Seq, one, none, chop, fuse, either, both, meet, during, times, Chain, sat}
use Rattle.assertions.specs.Segments.{Matches}
use Rattle.assertions.specs.Attempts.{Antecedent, MatchesBy, Leads, EndsAntecedent, IsBroken, IsDecided, decision}
use Rattle.assertions.proofs.Segments.{Matches-forward, Chain-forward}
use Rattle.assertions.proofs.Attempts.{decision-IsDecided, IsDecided-decision}

-- c is how much later the one lies
chain_down : (P Q : ℕ → ℕ → Type 0) (c : ℕ) → ((i j : ℕ) → P i j → i ≤ j)
    → ((i j k l : ℕ) → i ≡ c + k → j ≡ c + l → P i j → Q k l) → (n i j k l : ℕ) → i ≡ c + k → j ≡ c + l
    → Chain P n i j → Chain Q n k l
chain_down P Q c forward step zero i j k l first last h = omega (arith, h)
chain_down P Q c forward step (suc n) i j k l first last h =
    let from : i ≤ h.0 = Chain-forward P forward n i h.0 h.1 in
    let e : h.0 ≡ c + (h.0 - c) = omega arith in
    (h.0 - c, chain_down P Q c forward step n i h.0 k (h.0 - c) first e h.1, step h.0 j (h.0 - c) l e last h.2)

chain_up : (P Q : ℕ → ℕ → Type 0) (c : ℕ) → ((i j k l : ℕ) → i ≡ c + k → j ≡ c + l → Q k l → P i j) → (n i j k l : ℕ)
    → i ≡ c + k → j ≡ c + l → Chain Q n k l → Chain P n i j
chain_up P Q c step zero i j k l first last h = omega (arith, h)
chain_up P Q c step (suc n) i j k l first last h =
    (c + h.0, chain_up P Q c step n i (c + h.0) k h.0 first refl h.1, step (c + h.0) j h.0 l refl last h.2)

module _ (B : Type 0) (there here : B → ℕ → Bool) (c : ℕ) where
  pub down : ((b : B) (k : ℕ) → IsTrue (there b (c + k)) → IsTrue (here b k)) → (r : Seq B) (i j k l : ℕ) → i ≡ c + k
      → j ≡ c + l → Matches there r i j → Matches here r k l
  down same (one b) i j k l first last h = (omega (arith, h.0), same b k (subst (λ n. IsTrue (there b n)) first h.1))
  down same none i j k l first last h = omega (arith, h)
  down same (chop r s) i j k l first last h =
      let from : i ≤ h.0 = Matches-forward B there r i h.0 h.1 in
      let e : h.0 ≡ c + (h.0 - c) = omega arith in
      (h.0 - c, down same r i h.0 k (h.0 - c) first e h.1, down same s h.0 j (h.0 - c) l e last h.2)
  down same (fuse r s) i j k l first last h =
      let e : h.0 ≡ c + (h.0 - c) = omega (arith, h.1) in (
        h.0 - c,
        omega (arith, h.1),
        omega (arith, h.2),
        down same r i (h.0 + 1) k (h.0 - c + 1) first (omega arith) h.3,
        down same s h.0 j (h.0 - c) l e last h.4,
      )
  down same (either r s) i j k l first last h =
      elim h [ inl h ↦ inl (down same r i j k l first last h) | inr h ↦ inr (down same s i j k l first last h) ]
  down same (both r s) i j k l first last h =
      let r_from : i ≤ h.0 = Matches-forward B there r i h.0 h.2 in
      let s_from : i ≤ h.1 = Matches-forward B there s i h.1 h.3 in (
        h.0 - c,
        h.1 - c,
        down same r i h.0 k (h.0 - c) first (omega arith) h.2,
        down same s i h.1 k (h.1 - c) first (omega arith) h.3,
        omega (arith, h.4),
      )
  down same (meet r s) i j k l first last h =
      (down same r i j k l first last h.0, down same s i j k l first last h.1)
  down same (during b r) i j k l first last h =
      (down same r i j k l first last h.0, λ m from below. same b m (h.1 (c + m) (omega arith) (omega arith)))
  down same (times r least most) i j k l first last h = (
    h.0,
    h.1,
    h.2,
    chain_down (Matches there r) (Matches here r) c (Matches-forward B there r) (down same r) h.0 i j k l first
        last h.3,
  )

  pub up : ((b : B) (k : ℕ) → IsTrue (here b k) → IsTrue (there b (c + k))) → (r : Seq B) (i j k l : ℕ) → i ≡ c + k
      → j ≡ c + l → Matches here r k l → Matches there r i j
  up same (one b) i j k l first last h =
      (omega (arith, h.0), subst (λ n. IsTrue (there b n)) (sym first) (same b k h.1))
  up same none i j k l first last h = omega (arith, h)
  up same (chop r s) i j k l first last h =
      (c + h.0, up same r i (c + h.0) k h.0 first refl h.1, up same s (c + h.0) j h.0 l refl last h.2)
  up same (fuse r s) i j k l first last h = (
    c + h.0,
    omega (arith, h.1),
    omega (arith, h.2),
    up same r i (c + h.0 + 1) k (h.0 + 1) first (omega arith) h.3,
    up same s (c + h.0) j h.0 l refl last h.4,
  )
  up same (either r s) i j k l first last h =
      elim h [ inl h ↦ inl (up same r i j k l first last h) | inr h ↦ inr (up same s i j k l first last h) ]
  up same (both r s) i j k l first last h = (
    c + h.0,
    c + h.1,
    up same r i (c + h.0) k h.0 first refl h.2,
    up same s i (c + h.1) k h.1 first refl h.3,
    omega (arith, h.4),
  )
  up same (meet r s) i j k l first last h =
      (up same r i j k l first last h.0, up same s i j k l first last h.1)
  up same (during b r) i j k l first last h = (
    up same r i j k l first last h.0,
    λ m from below.
        let e : c + (m - c) ≡ m = omega arith in
        subst (λ n. IsTrue (there b n)) e (same b (m - c) (h.1 (m - c) (omega arith) (omega arith))),
  )
  up same (times r least most) i j k l first last h =
      (h.0, h.1, h.2, chain_up (Matches there r) (Matches here r) c (up same r) h.0 i j k l first last h.3)

same_option : {A : Type 0} (o p : Option A) → ((a : A) → o ≡ Some a → p ≡ Some a) → ((a : A) → p ≡ Some a → o ≡ Some a)
    → o ≡ p
same_option None None f g = refl
same_option None (Some b) f g = g b refl
same_option (Some a) p f g = sym (f a refl)

module _ (B : Type 0) (value here : B → ℕ → Bool) (c n : ℕ) (same : (b : B) (k : ℕ) → k < n
    → here b k ≡ value b (c + k)) where
  sat_down : (b : B) (k : ℕ) → IsTrue (sat value (c + n) b (c + k)) → IsTrue (sat here n b k)
  sat_down b k t = elim (cases_lt k n) [
    | inl lt ↦ elim (or_cases (nat_le (c + n) (c + k)) (value b (c + k)) t) [
      | inl past ↦ absurd (omega (arith, leb-true (c + n) (c + k) past))
      | inr seen ↦ or_right (nat_le n k) (here b k) (same b k lt ∙ seen)
    ]
    | inr ge ↦ or_left (nat_le n k) (here b k) (le-leb n k ge)
  ]

  sat_up : (b : B) (k : ℕ) → IsTrue (sat here n b k) → IsTrue (sat value (c + n) b (c + k))
  sat_up b k t = elim (cases_lt k n) [
    | inl lt ↦ elim (or_cases (nat_le n k) (here b k) t) [
      | inl past ↦ absurd (omega (arith, leb-true n k past))
      | inr seen ↦ or_right (nat_le (c + n) (c + k)) (value b (c + k)) (sym (same b k lt) ∙ seen)
    ]
    | inr ge ↦ or_left (nat_le (c + n) (c + k)) (value b (c + k)) (le-leb (c + n) (c + k) (omega arith))
  ]

  lower : (r : Seq B) (i j k l : ℕ) → i ≡ c + k → j ≡ c + l → Matches (sat value (c + n)) r i j
      → Matches (sat here n) r k l
  lower = down B (sat value (c + n)) (sat here n) c sat_down

  raise : (r : Seq B) (i j k l : ℕ) → i ≡ c + k → j ≡ c + l → Matches (sat here n) r k l
      → Matches (sat value (c + n)) r i j
  raise = up B (sat value (c + n)) (sat here n) c sat_up

  forward : (r : Seq B) (i j : ℕ) → Matches (sat value (c + n)) r i j → i ≤ j
  forward = Matches-forward B (sat value (c + n))

  lower_by : (first : Bool) (r : Seq B) (i j k l : ℕ) → i ≡ c + k → j ≡ c + l
      → MatchesBy (sat value (c + n)) first r i j
      → MatchesBy (sat here n) first r k l
  lower_by false r i j k l start end h = lower r i j k l start end h
  lower_by true r i j k l start end h =
      (lower r i j k l start end h.0, λ m below x. h.1 (c + m) (omega arith) (raise r i (c + m) k m start refl x))

  raise_by : (first : Bool) (r : Seq B) (i j k l : ℕ) → i ≡ c + k → j ≡ c + l → MatchesBy (sat here n) first r k l
      → MatchesBy (sat value (c + n)) first r i j
  raise_by false r i j k l start end h = raise r i j k l start end h
  raise_by true r i j k l start end h = (
    raise r i j k l start end h.0,
    λ m below x.
        let from : i ≤ m = forward r i m x in
        h.1 (m - c) (omega arith) (lower r i m k (m - c) start (omega arith) x),
  )

  -- the same of an antecedent
  lower_led : (r : Antecedent B) (i j k l : ℕ) → i ≡ c + k → j ≡ c + l → Leads (sat value (c + n)) r i j
      → Leads (sat here n) r k l
  lower_led r = lower_by r.first r.sequence

  raise_led : (r : Antecedent B) (i j k l : ℕ) → i ≡ c + k → j ≡ c + l → Leads (sat here n) r k l
      → Leads (sat value (c + n)) r i j
  raise_led r = raise_by r.first r.sequence

  pub end_down : (r : Antecedent B) (e : ℕ) → EndsAntecedent value r (c + n) c e → EndsAntecedent here r n 0 (e - c)
  end_down r e h =
      (omega arith, omega (arith, h.0, h.1), lower_led r c (e + 1) 0 (e - c + 1) (omega arith) (omega (arith, h.0)) h.2)

  pub end_up : (r : Antecedent B) (e : ℕ) → EndsAntecedent here r n 0 e → EndsAntecedent value r (c + n) c (c + e)
  end_up r e h = (omega arith, omega (arith, h.1), raise_led r c (c + e + 1) 0 (e + 1) (omega arith) (omega arith) h.2)

  -- an end lies where it does beside the first tick
  end_at : (r : Antecedent B) (e : ℕ) → c ≤ e → EndsAntecedent here r n 0 (e - c) → EndsAntecedent value r (c + n) c e
  end_at r e from h =
      let same_end : c + (e - c) ≡ e = omega arith in subst (λ k. EndsAntecedent value r (c + n) c k) same_end
      (end_up r (e - c) h)

  -- an obligation that is broken
  pub broken_down : (s : Seq B) (e : ℕ) → IsBroken value s (c + n) (c + e) → IsBroken here s n e
  broken_down s e h j m = h (c + j) (raise s (c + e) (c + j) e j refl refl m)

  pub broken_up : (s : Seq B) (e : ℕ) → IsBroken here s n e → IsBroken value s (c + n) (c + e)
  broken_up s e h j m =
      h (j - c) (lower s (c + e) j e (j - c) refl (omega (arith, forward s (c + e) j m)) m)

  decided_down : (r : Antecedent B) (s : Seq B) (d : Decision) → IsDecided value r s (c + n) c d
      → IsDecided here r s n 0 d
  decided_down r s Failed h =
      let from : c ≤ h.0 = h.1.0 in
      (h.0 - c, end_down r h.0 h.1, λ j m. h.2 (c + j) (raise s h.0 (c + j) (h.0 - c) j (omega arith) refl m))
  decided_down r s Held h = (
    (h.0.0 - c, end_down r h.0.0 h.0.1),
    λ e end.
        let kept = h.1 (c + e) (end_up r e end) in
        let from : c + e ≤ kept.0 = forward s (c + e) kept.0 kept.2 in
        (kept.0 - c, omega (arith, kept.1), lower s (c + e) kept.0 e (kept.0 - c) refl (omega arith) kept.2),
    λ j above m. h.2 (c + j) (omega arith) (raise_led r c (c + j) 0 j (omega arith) refl m),
  )
  decided_down r s Vacuously h = (
    λ e end. h.0 (c + e) (end_up r e end),
    λ j above m. h.1 (c + j) (omega arith) (raise_led r c (c + j) 0 j (omega arith) refl m),
  )

  decided_up : (r : Antecedent B) (s : Seq B) (d : Decision) → IsDecided here r s n 0 d
      → IsDecided value r s (c + n) c d
  decided_up r s Failed h = (c + h.0, end_up r h.0 h.1, broken_up s h.0 h.2)
  decided_up r s Held h = (
    (c + h.0.0, end_up r h.0.0 h.0.1),
    λ e end.
        let from : c ≤ e = end.0 in
        let kept = h.1 (e - c) (end_down r e end) in
        (c + kept.0, omega (arith, kept.1), raise s e (c + kept.0) (e - c) kept.0 (omega arith) refl kept.2),
    λ j above m. h.2 (j - c) (omega arith) (lower_led r c j 0 (j - c) (omega arith) (omega arith) m),
  )
  decided_up r s Vacuously h = (
    λ e end. h.0 (e - c) (end_down r e end),
    λ j above m. h.1 (j - c) (omega arith) (lower_led r c j 0 (j - c) (omega arith) (omega arith) m),
  )

  -- by the values that were seen
  pub decision_seen : (r : Antecedent B) (s : Seq B) → decision value r s (c + n) c ≡ decision here r s n 0
  decision_seen r s = same_option _ _
      (λ d e. IsDecided-decision B here r s n 0 d (decided_down r s d (decision-IsDecided B value r s (c + n) c d e)))
      (λ d e. IsDecided-decision B value r s (c + n) c d (decided_up r s d (decision-IsDecided B here r s n 0 d e)))
