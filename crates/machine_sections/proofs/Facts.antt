-- What an automaton that follows a sequence knows of ends and obligations.
use Rattle.std.proofs.Common.{◌≡◌, ◌∙◌, ◌⊎◌, inl, inr, ℕ, zero, suc, ◌+◌, ◌-◌, ◌^◌, ◌<◌, ◌≤◌, Bool, true, false, not}
use Rattle.std.proofs.Common.{◌||◌, if◌then◌else◌, refl, sym, ap, subst, arith}
use Rattle.std.specs.Prelude.{IsTrue, ◌==◌, bit_or}
use Rattle.std.specs.Int.{bit_at}
use Rattle.std.proofs.lemmas.Bool.{both_ways, not-true, and_parts, and_cases, or_cases, or_parts, not-false, cases_Bool}
use Rattle.std.proofs.lemmas.Bool.{cases_lt, cases_eq, eqb-true}
use Rattle.std.proofs.lemmas.Nat.Bits.{bit_at_or, bit_at-pow_same, bit_at-pow_other, bit_at-zero, bit_at-lt}
use Rattle.assertions.specs.Segments.{Seq, sat, Matches}
use Rattle.assertions.specs.Attempts.{Antecedent, every, MatchesBy, Leads, EndsAntecedent, IsKept, IsBroken}
use Rattle.assertions.specs.Attempts.{IsAntecedentOver}
use Rattle.assertions.proofs.Segments.{Matches-forward}
use Rattle.machine_sections.specs.Automata.{Automaton, positions_at, accepts, accepted_at, AutomatonFollows}
use Rattle.machine_sections.specs.Standing.{is_unsettled}
use Rattle.machine_sections.proofs.Local.{Matches-seen, Matches-sat, Matches-earlier}

module _ (a : Automaton) where
  accepted_at-more : (c k j : ℕ) (b : Bool) → accepts a c k ≡ b
      → ((bit_at (accepted_at a c k) j ≡ 1) → (j < k) × IsTrue (accepts a c j))
      → bit_at (if b then bit_or (accepted_at a c k) (2 ^ k) else accepted_at a c k) j ≡ 1 → (j < suc k)
      × IsTrue (accepts a c j)
  accepted_at-more c k j false e before h = let p = before h in (omega (arith, p.0), p.1)
  accepted_at-more c k j true e before h =
      elim (cases_eq j k) [
        | inl same ↦ (omega arith, ap (accepts a c) same ∙ e)
        | inr other ↦ let p =
            before (omega (arith, bit_at_or (accepted_at a c k) (2 ^ k) j, bit_at-pow_other k j other, h)) in
            (omega (arith, p.0), p.1)
      ]

  -- a bit of what it accepted is a tick at which it did
  pub accepted_at-bit : (c k j : ℕ) → bit_at (accepted_at a c k) j ≡ 1 → (j < k) × IsTrue (accepts a c j)
  accepted_at-bit c zero j h = absurd (omega (arith, bit_at-zero j))
  accepted_at-bit c (suc k) j h = accepted_at-more c k j (accepts a c k) refl (accepted_at-bit c k j) h

  bit-more : (c k j : ℕ) (b : Bool) → accepts a c k ≡ b → (j < k → bit_at (accepted_at a c k) j ≡ 1) → j < suc k
      → IsTrue (accepts a c j) → bit_at (if b then bit_or (accepted_at a c k) (2 ^ k) else accepted_at a c k) j ≡ 1
  bit-more c k j false e before below h =
      elim (cases_eq j k) [
        | inl same ↦ absurd (both_ways (accepts a c k) e (ap (accepts a c) (sym same) ∙ h))
        | inr other ↦ before (omega arith)
      ]
  bit-more c k j true e before below h =
      elim (cases_eq j k) [
        | inl same ↦
            rw same
            (omega
            (arith, bit_at_or (accepted_at a c k) (2 ^ k) k, bit_at-pow_same k, bit_at-lt (accepted_at a c k) k))
        | inr other ↦
            omega (arith, bit_at_or (accepted_at a c k) (2 ^ k) j, bit_at-pow_other k j other, before (omega arith))
      ]

  pub bit-accepted_at : (c k j : ℕ) → j < k → IsTrue (accepts a c j) → bit_at (accepted_at a c k) j ≡ 1
  bit-accepted_at c zero j below h = absurd (omega arith)
  bit-accepted_at c (suc k) j below h =
      bit-more c k j (accepts a c k) refl (λ less. bit-accepted_at c k j less h) below h

  zero-more : (c k : ℕ) (b : Bool) → accepts a c k ≡ b → accepted_at a c k ≡ 0 → (IsTrue (accepts a c k) → ⊥)
      → (if b then bit_or (accepted_at a c k) (2 ^ k) else accepted_at a c k) ≡ 0
  zero-more c k false e before none = before
  zero-more c k true e before none = absurd (none e)

  -- where it accepted nowhere
  pub zero-accepted_at : (c k : ℕ) → ((j : ℕ) → j < k → IsTrue (accepts a c j) → ⊥) → accepted_at a c k ≡ 0
  zero-accepted_at c zero none = refl
  zero-accepted_at c (suc k) none =
      zero-more c k (accepts a c k) refl (zero-accepted_at c k (λ j below. none j (omega arith)))
      (none k (omega arith))

  pub accepted_at-zero : (c k : ℕ) → accepted_at a c k ≡ 0 → (j : ℕ) → j < k → IsTrue (accepts a c j) → ⊥
  accepted_at-zero c k e j below h =
      let bit = bit-accepted_at c k j below h in
      let zeros = ap (λ n. bit_at n j) e in
      omega (arith, bit, zeros, bit_at-zero j)

  some-more : (c k : ℕ) (b : Bool) → accepts a c k ≡ b
      → ((if b then bit_or (accepted_at a c k) (2 ^ k) else accepted_at a c k) ≡ 0 → ⊥)
      → ((accepted_at a c k ≡ 0 → ⊥) → (j : ℕ) × (j < k) × IsTrue (accepts a c j)) → (j : ℕ) × (j < suc k)
      × IsTrue (accepts a c j)
  some-more c k true e some before = (k, omega arith, e)
  some-more c k false e some before = let x = before some in (x.0, omega (arith, x.1), x.2)

  -- it accepted somewhere
  pub some-accepted_at : (c k : ℕ) → (accepted_at a c k ≡ 0 → ⊥) → (j : ℕ) × (j < k) × IsTrue (accepts a c j)
  some-accepted_at c zero some = absurd (some refl)
  some-accepted_at c (suc k) some = some-more c k (accepts a c k) refl some (some-accepted_at c k)

-- An antecedent's match that ends by n is one of what was seen, and is one with those ticks seen.
seen-by : (B : Type 0) (value : B → ℕ → Bool) (first : Bool) (r : Seq B) (n i j : ℕ) → j ≤ n
    → MatchesBy (sat value n) first r i j → MatchesBy value first r i j
seen-by B value false r n i j by h = Matches-seen B value r n i j by h
seen-by B value true r n i j by h =
    (Matches-seen B value r n i j by h.0, λ k below m. h.1 k below (Matches-sat B value r n i k m))

sat-by : (B : Type 0) (value : B → ℕ → Bool) (first : Bool) (r : Seq B) (n i j : ℕ) → j ≤ n
    → MatchesBy value first r i j → MatchesBy (sat value n) first r i j
sat-by B value false r n i j by h = Matches-sat B value r n i j h
sat-by B value true r n i j by h =
    (Matches-sat B value r n i j h.0, λ k below m. h.1 k below (Matches-seen B value r n i k (omega arith) m))

pub Leads-seen : (B : Type 0) (value : B → ℕ → Bool) (r : Antecedent B) (n i j : ℕ) → j ≤ n
    → Leads (sat value n) r i j → Leads value r i j
Leads-seen B value r n i j by h = seen-by B value r.first r.sequence n i j by h

pub Leads-sat : (B : Type 0) (value : B → ℕ → Bool) (r : Antecedent B) (n i j : ℕ) → j ≤ n
    → Leads value r i j → Leads (sat value n) r i j
Leads-sat B value r n i j by h = sat-by B value r.first r.sequence n i j by h

module _ (B : Type 0) (value : B → ℕ → Bool) (r : Antecedent B) (a : Automaton)
    (follows : AutomatonFollows value r a) where
  pub IsEnd-accepts : (n c e : ℕ) → EndsAntecedent value r n c e → IsTrue (accepts a c (e - c))
  IsEnd-accepts n c e end =
      let same : e + 1 ≡ c + (e - c) + 1 = omega (arith, end.0) in
      (follows.ends c (e - c)).1
      (subst (Leads value r c) same (Leads-seen B value r n c (e + 1) (omega (arith, end.1)) end.2))

  pub accepts-IsEnd : (n c e : ℕ) → c ≤ e → e < n → IsTrue (accepts a c (e - c)) → EndsAntecedent value r n c e
  accepts-IsEnd n c e from below h =
      let same : c + (e - c) + 1 ≡ e + 1 = omega arith in (
        from,
        below,
        Leads-sat B value r n c (e + 1) (omega arith) (subst (Leads value r c) same ((follows.ends c (e - c)).0 h)),
      )

  pub IsOver-places : (n c : ℕ) → c ≤ n → IsAntecedentOver value r n c → positions_at a c (n - c) ≡ 0
  IsOver-places n c le over =
      let same : n ≡ c + (n - c) = omega arith in
      (follows.over c (n - c)).1 (subst (λ k. IsAntecedentOver value r k c) same over)

  pub places-IsOver : (n c : ℕ) → c ≤ n → positions_at a c (n - c) ≡ 0 → IsAntecedentOver value r n c
  places-IsOver n c le h =
      let same : c + (n - c) ≡ n = omega arith in
      subst (λ k. IsAntecedentOver value r k c) same ((follows.over c (n - c)).0 h)

module _ (B : Type 0) (value : B → ℕ → Bool) (r : Seq B) (a : Automaton)
    (follows : AutomatonFollows value (every r) a) where
  -- an obligation that is kept stays kept; one that is broken stays broken; none is both
  pub IsKept-later : (m n e : ℕ) → m ≤ n → IsKept value r m e → IsKept value r n e
  IsKept-later m n e le kept = (
    kept.0,
    omega (arith, kept.1),
    Matches-sat B value r n e kept.0 (Matches-seen B value r m e kept.0 kept.1 kept.2),
  )

  pub IsBroken-later : (m n e : ℕ) → m ≤ n → IsBroken value r m e → IsBroken value r n e
  IsBroken-later m n e le broken j h = broken j (Matches-earlier B value r m n e j le h)

  pub IsBroken-not_kept : (n e : ℕ) → IsBroken value r n e → IsKept value r n e → ⊥
  IsBroken-not_kept n e broken kept = broken kept.0 kept.2

  pub IsBroken-places : (n e : ℕ) → e ≤ n → IsBroken value r n e → positions_at a e (n - e) ≡ 0
  IsBroken-places n e le broken = IsOver-places B value (every r) a follows n e le (λ j later h. broken j h)

  pub places-IsBroken : (n e : ℕ) → e ≤ n → positions_at a e (n - e) ≡ 0 → (IsKept value r n e → ⊥)
      → IsBroken value r n e
  places-IsBroken n e le none unkept j h =
      elim (cases_lt n j) [
        | inl later ↦ places-IsOver B value (every r) a follows n e le none j later h
        | inr by ↦ unkept (j, by, h)
      ]

  -- it accepts after it began
  module _ (fills : (e : ℕ) → Matches value r e e → ⊥) where
    pub IsKept-accepts : (n e : ℕ) → IsKept value r n e → (k : ℕ) × (e + k < n) × IsTrue (accepts a e k)
    IsKept-accepts n e kept =
        let seen = Matches-seen B value r n e kept.0 kept.1 kept.2 in
        let forward = Matches-forward B value r e kept.0 seen in
        elim (cases_eq e kept.0) [
          | inl same ↦ absurd (fills e (subst (Matches value r e) (sym same) seen))
          | inr other ↦
              let last : kept.0 ≡ e + (kept.0 - e - 1) + 1 = omega arith in (
                kept.0 - e - 1,
                omega (arith, kept.1),
                (follows.ends e (kept.0 - e - 1)).1 (subst (Matches value r e) last seen),
              )
        ]

    pub accepts-IsKept : (n e k : ℕ) → e + k < n → IsTrue (accepts a e k) → IsKept value r n e
    accepts-IsKept n e k below h =
        (e + k + 1, omega arith, Matches-sat B value r n e (e + k + 1) ((follows.ends e k).0 h))

    unsettled-before : (e k j : ℕ) → IsTrue (is_unsettled a e k) → j < k → IsTrue (accepts a e j) → ⊥
    unsettled-before e zero j h below on = omega arith
    unsettled-before e (suc k) j h below on =
        let p = and_parts (is_unsettled a e k) (not (accepts a e k || positions_at a e (suc k) == 0)) h in
        elim (cases_eq j k) [
          | inl same ↦ both_ways (accepts a e k)
              (or_parts (accepts a e k) (positions_at a e (suc k) == 0) (not-true _ p.1)).0
              (ap (accepts a e) (sym same) ∙ on)
          | inr other ↦ unsettled-before e k j p.0 (omega arith) on
        ]

    -- what is unsettled isn't kept
    pub unsettled-IsKept : (n e : ℕ) → e ≤ n → IsTrue (is_unsettled a e (n - e)) → IsKept value r n e → ⊥
    unsettled-IsKept n e le h kept =
        let x = IsKept-accepts n e kept in
        unsettled-before e (n - e) x.0 h (omega (arith, x.1)) x.2

    settled-before : (e k : ℕ) → is_unsettled a e k ≡ false → IsKept value r (e + k) e ⊎ IsBroken value r (e + k) e
    settled-before e zero h = cc
    settled-before e (suc k) h =
        let le : e + k ≤ e + suc k = omega arith in
        elim (cases_Bool (is_unsettled a e k)) [
          | inr off ↦
              elim (settled-before e k off) [
                | inl kept ↦ inl (IsKept-later (e + k) (e + suc k) e le kept)
                | inr broken ↦ inr (IsBroken-later (e + k) (e + suc k) e le broken)
              ]
          | inl on ↦
              elim (cases_Bool (accepts a e k)) [
                | inl shown ↦ inl (accepts-IsKept (e + suc k) e k (omega arith) shown)
                | inr quiet ↦
                    let ended : (accepts a e k || positions_at a e (suc k) == 0) ≡ true =
                    elim (and_cases (is_unsettled a e k) (not (accepts a e k || positions_at a e (suc k) == 0)) h)
                    [ inl x ↦ absurd (both_ways _ x on) | inr x ↦ not-false _ x ] in
                    elim (or_cases (accepts a e k) (positions_at a e (suc k) == 0) ended) [
                      | inl shown ↦ absurd (both_ways _ quiet shown)
                      | inr empty ↦
                          let count : suc k ≡ e + suc k - e = omega arith in
                          let here = is_unsettled-more e k on quiet in
                          inr (places-IsBroken (e + suc k) e (omega arith)
                          (ap (positions_at a e) (sym count) ∙ eqb-true (positions_at a e (suc k)) 0 empty)
                          (λ kept. let x = IsKept-accepts (e + suc k) e kept in here x.0 (omega (arith, x.1)) x.2))
                    ]
              ]
        ]
      where
        is_unsettled-more : (e k : ℕ) → IsTrue (is_unsettled a e k) → accepts a e k ≡ false → (j : ℕ) → j < suc k
            → IsTrue (accepts a e j) → ⊥
        is_unsettled-more e k on quiet j below shown =
            elim (cases_eq j k) [
              | inl same ↦ both_ways (accepts a e k) quiet (ap (accepts a e) (sym same) ∙ shown)
              | inr other ↦ unsettled-before e k j on (omega arith) shown
            ]

    -- what is settled is kept or broken
    pub settled-fate : (n e : ℕ) → e ≤ n → is_unsettled a e (n - e) ≡ false → IsKept value r n e ⊎ IsBroken value r n e
    settled-fate n e le h =
        let same : e + (n - e) ≡ n = omega arith in
        subst (λ k. IsKept value r k e ⊎ IsBroken value r k e) same (settled-before e (n - e) h)
