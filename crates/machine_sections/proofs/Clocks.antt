-- A clock goes from standing to standing, and decides what falls at it.
use Rattle.std.proofs.Common.{◌≡◌, ◌∙◌, ◌⊎◌, inl, inr, ℕ, suc, ◌+◌, ◌-◌, ◌^◌, ◌<◌, ◌≤◌, Bool, true, false, not, ◌&&◌}
use Rattle.std.proofs.Common.{◌||◌, if◌then◌else◌, List, [], ◌∷◌, ◌++◌, refl, sym, ap, arith}
use Rattle.std.specs.Prelude.{◌==◌, bit_or, nat_le}
use Rattle.std.specs.Int.{bit_at}
use Rattle.std.proofs.lemmas.Bool.{both_ways, cases_Bool, cases_lt, cases_eq, eqb-true, eq-eqb, eqb-false, leb-true}
use Rattle.std.proofs.lemmas.Bool.{le-leb, not-true, not-false, not_from_false, and_parts, and_from, or_parts, or_cases}
use Rattle.std.proofs.lemmas.Bool.{or_from, false_from_ne_true}
use Rattle.signals.specs.declared.verdict.Verdict.{Verdict}
use Rattle.signals.specs.declared.verdict.Decided.{Decided}
use Rattle.signals.specs.declared.verdict.Verdict.TheVariants as outcome
use Rattle.machine_checked.specs.Clocks.{Attempt, Obligation, Settled, visited, Fate, is_broken, is_ended, staying}
use Rattle.machine_checked.specs.Clocks.{awaits, some_broken, some_open, Settlement, ends, settle}
use Rattle.assertions.specs.declared.decision.Decision.{Decision}
use Rattle.assertions.specs.declared.decision.Decision.TheVariants.{Held, Vacuously, Failed}
use Rattle.assertions.specs.Quantifiers.{some_in, each_in}
use Rattle.assertions.proofs.Quantifiers.{some_in-found, some_in-true, each_in-at, each_in-true, each_in-end}
use Rattle.assertions.specs.Segments.{Seq, sat, Matches}
use Rattle.assertions.specs.Attempts.{Antecedent, every, Leads, EndsAntecedent, IsKept, IsAntecedentOver, IsDecided}
use Rattle.machine_sections.specs.Automata.{Automaton, positions_at, accepts, accepted_at, AutomatonFollows}
use Rattle.machine_sections.specs.Monitors.{Monitor, all_visited, some_accepts, with_opened, fate_in, fates_in}
use Rattle.machine_sections.specs.Monitors.{all_settled}
use Rattle.machine_sections.specs.Monitors.{all_disabled, settled_with, clock_opened, fresh_attempt, monitor_clock}
use Rattle.machine_sections.specs.Standing.{select_ticks, is_open, falls_at, attempt_at, awaits_at, is_unsettled}
use Rattle.machine_sections.specs.Standing.{is_owed}
use Rattle.machine_sections.specs.Standing.{obligation_at, standing_at, falling}
use Rattle.machine_sections.proofs.Local.{Matches-seen, Matches-sat}
use Rattle.machine_sections.proofs.Facts.{accepted_at-bit, bit-accepted_at, accepted_at-zero, some-accepted_at}
use Rattle.machine_sections.proofs.Facts.{IsEnd-accepts}
use Rattle.machine_sections.proofs.Facts.{Leads-seen, Leads-sat}
use Rattle.machine_sections.proofs.Facts.{accepts-IsEnd, IsOver-places, places-IsOver, IsKept-later, IsBroken-not_kept}
use Rattle.machine_sections.proofs.Facts.{IsBroken-places, places-IsBroken, IsKept-accepts, accepts-IsKept}
use Rattle.machine_sections.proofs.Facts.{unsettled-IsKept}
use Rattle.machine_sections.proofs.Facts.{settled-fate}
use Rattle.machine_sections.proofs.Selections.{last_of, select-push, select-same, select-none, some_of-same, some_in-of}
use Rattle.machine_sections.proofs.Parts.{visit_each-select, some_accepts-select, fates_of-select, stayed}
use Rattle.machine_sections.proofs.Parts.{staying-select}
use Rattle.machine_sections.proofs.Parts.{some_broken-select, some_open-select, disable_each-select, settled}
use Rattle.machine_sections.proofs.Parts.{settlement}
use Rattle.machine_sections.proofs.Parts.{settle_each-select}
use Rattle.machine_sections.proofs.Verdicts.{AreVerdicts, IsRunning, is_open-runs, runs-is_open, begins, runs-before}
use Rattle.machine_sections.proofs.Verdicts.{decides}
use Rattle.machine_sections.proofs.Verdicts.{goes_on, falls-was_open, open-was_open, off-Disabled, runs-Open}

and-regroup : (a q u x : Bool) → ((a && q) && u) && x ≡ (a && q) && (u && x)
and-regroup true true u x = refl
and-regroup true false u x = refl
and-regroup false q u x = refl

module _ (a : Automaton) where
  abbrev entered_at : ℕ → ℕ → ℕ
  entered_at c k = positions_at a c k

  pub step-entered : (n c : ℕ) → c ≤ n → (a.step n (positions_at a c (n - c))).entered ≡ positions_at a c (n + 1 - c)
  step-entered n c le =
      let here : n ≡ c + (n - c) = omega arith in
      let next : suc (n - c) ≡ n + 1 - c = omega arith in
      ap (λ t. (a.step t (positions_at a c (n - c))).entered) here ∙ ap (positions_at a c) next

  pub step-accepted : (n c : ℕ) → c ≤ n → (a.step n (positions_at a c (n - c))).accepted ≡ accepts a c (n - c)
  step-accepted n c le =
      let here : n ≡ c + (n - c) = omega arith in
      ap (λ t. (a.step t (positions_at a c (n - c))).accepted) here

  step-heard : (n c : ℕ) → c ≤ n
      → (if (a.step n (positions_at a c (n - c))).accepted then bit_or (accepted_at a c (n - c)) (2 ^ (n - c)) else
      accepted_at a c (n - c)) ≡ accepted_at a c (n + 1 - c)
  step-heard n c le =
      let next : suc (n - c) ≡ n + 1 - c = omega arith in
      ap (λ b. if b then bit_or (accepted_at a c (n - c)) (2 ^ (n - c)) else accepted_at a c (n - c))
      (step-accepted n c le) ∙ ap (accepted_at a c) next

module _ (m : Monitor) where
  -- an attempt after its visit
  visited-attempt : (n c : ℕ) → c ≤ n → visited n (attempt_at m n c) (m.antecedent.step n (attempt_at m n c).positions)
      ≡ attempt_at m (n + 1) c
  visited-attempt n c le =
      let g : ℕ → ℕ → Attempt = λ x y. record { start = c; positions = x; awaited = y } in
      ap (λ x.
      g x (if (m.antecedent.step n (positions_at m.antecedent c (n - c))).accepted then bit_or
      (accepted_at m.antecedent c (n - c)) (2 ^ (n - c)) else accepted_at m.antecedent c (n - c)))
      (step-entered m.antecedent n c le)
      ∙ ap (λ y. g (positions_at m.antecedent c (n + 1 - c)) y) (step-heard m.antecedent n c le)

  -- an obligation after its visit
  abbrev pub fate_at : ℕ → ℕ → Fate
  fate_at n e = record {
    tick = e;
    positions = positions_at m.consequent e (n + 1 - e);
    kept = accepts m.consequent e (n - e);
  }

  fate_of-obligation : (n e : ℕ) → e ≤ n → fate_in m.consequent n (obligation_at m n e) ≡ fate_at n e
  fate_of-obligation n e le =
      let g : ℕ → Bool → Fate = λ x y. record { tick = e; positions = x; kept = y } in
      ap (λ x. g x (m.consequent.step n (positions_at m.consequent e (n - e))).accepted)
      (step-entered m.consequent n e le)
      ∙ ap (λ y. g (positions_at m.consequent e (n + 1 - e)) y) (step-accepted m.consequent n e le)

  new-attempt : (n : ℕ) → attempt_at m n n ≡ fresh_attempt m n
  new-attempt n =
      let none : n - n ≡ 0 = omega arith in
      ap (λ k. record { start = n; positions = positions_at m.antecedent n k; awaited = accepted_at m.antecedent n k })
      none

  new-obligation : (n : ℕ) → obligation_at m n n ≡ record { tick = n; positions = m.consequent.start }
  new-obligation n =
      let none : n - n ≡ 0 = omega arith in
      ap (λ k. record { tick = n; positions = positions_at m.consequent n k }) none

module _ (B : Type 0) (value : B → ℕ → Bool) (r : Antecedent B) (s : Seq B) (m : Monitor)
    (fr : AutomatonFollows value r m.antecedent) (fs : AutomatonFollows value (every s) m.consequent)
    (fills : (e : ℕ) → Matches value s e e → ⊥) (verdict : ℕ → ℕ → Verdict)
    (are : AreVerdicts value m.off r s verdict) (n : ℕ) where
  abbrev running : ℕ → Type 0
  running c = IsRunning B value m.off r s verdict are n c

  abbrev open_now : ℕ → Bool
  open_now c = is_open (verdict n c)

  abbrev owed : ℕ → Bool
  owed = is_owed m verdict n

  -- the attempts with the new one
  with-attempt : select_ticks open_now (attempt_at m n) 0 n ++ fresh_attempt m n ∷ []
      ≡ select_ticks open_now (attempt_at m n) 0 (suc n)
  with-attempt =
      let first : 0 + n ≡ n = omega arith in
      let is : open_now n ≡ true =
      runs-is_open B value m.off r s verdict are n n (begins B value m.off r s verdict are n) in
      sym (
      select-push open_now (attempt_at m n) 0 n
      ∙ ap (λ c. select_ticks open_now (attempt_at m n) 0 n ++ last_of (open_now c) (attempt_at m n c)) first
      ∙ ap (λ b. select_ticks open_now (attempt_at m n) 0 n ++ last_of b (attempt_at m n n)) is
      ∙ ap (λ x. select_ticks open_now (attempt_at m n) 0 n ++ x ∷ []) (new-attempt m n)
      )

  -- an obligation of this tick is owed where an attempt accepts
  owed-new : some_accepts m.antecedent n (select_ticks open_now (attempt_at m n) 0 (suc n)) ≡ owed n
  owed-new =
      let none : n - n ≡ 0 = omega arith in
      let more : suc n ≡ n + 1 = omega arith in
      let accepted : some_accepts m.antecedent n (select_ticks open_now (attempt_at m n) 0 (suc n))
      ≡ awaits_at m verdict n =
      some_accepts-select m.antecedent n open_now (attempt_at m n) 0 (suc n)
      ∙ some_of-same (λ c. open_now c && (m.antecedent.step n (attempt_at m n c).positions).accepted)
      (λ c. open_now c && accepts m.antecedent c (n - c)) 0 (suc n)
      (λ c from below. ap (λ b. open_now c && b) (step-accepted m.antecedent n c (omega arith)))
      ∙ sym (some_in-of (suc n) (λ c. open_now c && accepts m.antecedent c (n - c)))
      ∙ ap (λ k. some_in 0 k (λ c. open_now c && accepts m.antecedent c (n - c))) more in
      let quiet : each_in n n (λ k. not (m.off k)) ≡ true = each_in-end n n (λ k. not (m.off k)) (omega arith) in
      let fresh : is_unsettled m.consequent n (n - n) ≡ true = ap (is_unsettled m.consequent n) none in
      elim (cases_Bool (awaits_at m verdict n)) [
        | inl on ↦ rw (accepted, on, quiet, fresh) refl
        | inr off ↦ rw (accepted, off) refl
      ]

  with_new-owed : (b : Bool) → b ≡ owed n → with_opened b m.consequent n (select_ticks owed (obligation_at m n) 0 n)
      ≡ select_ticks owed (obligation_at m n) 0 (suc n)
  with_new-owed b e =
      let first : 0 + n ≡ n = omega arith in
      let pushed = select-push owed (obligation_at m n) 0 n
      ∙ ap (λ c. select_ticks owed (obligation_at m n) 0 n ++ last_of (owed c) (obligation_at m n c)) first
      ∙ ap (λ d. select_ticks owed (obligation_at m n) 0 n ++ last_of d (obligation_at m n n)) (sym e)
      ∙ ap (λ x. select_ticks owed (obligation_at m n) 0 n ++ last_of b x) (new-obligation m n) in
      go b ∙ sym pushed
    where
      append-none : (xs : List Obligation) → xs ≡ xs ++ []
      append-none [] = refl
      append-none (x ∷ xs) = ap (λ ys. x ∷ ys) (append-none xs)

      go : (b : Bool) → with_opened b m.consequent n (select_ticks owed (obligation_at m n) 0 n)
          ≡ select_ticks owed (obligation_at m n) 0 n ++ last_of b (record { tick = n; positions = m.consequent.start })
      go true = refl
      go false = append-none (select_ticks owed (obligation_at m n) 0 n)

  -- the fates of the obligations, the new one among them
  abbrev fates : List Fate
  fates = select_ticks owed (fate_at m n) 0 (suc n)

  fates-owed : fates_in m.consequent n (select_ticks owed (obligation_at m n) 0 (suc n)) ≡ fates
  fates-owed =
      fates_of-select m.consequent n owed (obligation_at m n) 0 (suc n)
      ∙ select-same owed owed (λ e. fate_in m.consequent n (obligation_at m n e)) (fate_at m n) 0 (suc n)
      (λ e from below. refl) (λ e from below is. fate_of-obligation m n e (omega arith))

  -- where the clock isn't disabled
  module _ (on : m.off n ≡ false) where
    quiet-more : (e : ℕ) → e ≤ n → each_in e (n + 1) (λ k. not (m.off k)) ≡ each_in e n (λ k. not (m.off k))
    quiet-more e le =
        elim (cases_Bool (each_in e n (λ k. not (m.off k)))) [
          | inl is ↦
              each_in-true e (n + 1) (λ k. not (m.off k)) (λ k from below.
              elim (cases_eq k n) [
                | inl same ↦ rw same (not_from_false (m.off n) on)
                | inr other ↦ each_in-at e n (λ k. not (m.off k)) k is from (omega arith)
              ]) ∙ sym is
          | inr isnt ↦
              false_from_ne_true _
              (λ h. both_ways _ isnt
              (each_in-true e n (λ k. not (m.off k))
              (λ k from below. each_in-at e (n + 1) (λ k. not (m.off k)) k h from (omega arith)))) ∙ sym isnt
        ]

    owed-stays : (e : ℕ) → e ≤ n → (owed e && not (is_ended (fate_at m n e))) ≡ is_owed m verdict (n + 1) e
    owed-stays e le =
        let next : suc (n - e) ≡ n + 1 - e = omega arith in
        let count : n + 1 - e ≡ suc (n - e) = omega arith in
        ap (λ k. owed e && not (accepts m.consequent e (n - e) || positions_at m.consequent e k == 0)) count
        ∙ and-regroup (awaits_at m verdict e) (each_in e n (λ k. not (m.off k))) (is_unsettled m.consequent e (n - e))
        (not (accepts m.consequent e (n - e) || positions_at m.consequent e (suc (n - e)) == 0))
        ∙ ap (λ b. (awaits_at m verdict e && b) && is_unsettled m.consequent e (suc (n - e))) (sym (quiet-more e le))
        ∙ ap (λ k. (awaits_at m verdict e && each_in e (n + 1) (λ k. not (m.off k))) && is_unsettled m.consequent e k)
        next

    staying-owed : staying fates ≡ select_ticks (is_owed m verdict (n + 1)) (obligation_at m (n + 1)) 0 (n + 1)
    staying-owed =
        let more : suc n ≡ n + 1 = omega arith in
        staying-select owed (fate_at m n) 0 (suc n)
        ∙ select-same (λ e. owed e && not (is_ended (fate_at m n e))) (is_owed m verdict (n + 1))
        (λ e. stayed (fate_at m n e)) (obligation_at m (n + 1)) 0 (suc n)
        (λ e from below. owed-stays e (omega arith)) (λ e from below is. refl)
        ∙ ap (λ k. select_ticks (is_owed m verdict (n + 1)) (obligation_at m (n + 1)) 0 k) more

    -- an attempt that runs
    module _ (c : ℕ) (le : c ≤ n) (runs : running c) where
      abbrev x : Attempt
      x = attempt_at m (n + 1) c

      awaits-IsEnd : (e : ℕ) → awaits x e ≡ true → EndsAntecedent value r (n + 1) c e
      awaits-IsEnd e h =
          let p = and_parts (nat_le c e) (bit_at (accepted_at m.antecedent c (n + 1 - c)) (e - c) == 1) h in
          let b = accepted_at-bit m.antecedent c (n + 1 - c) (e - c) (eqb-true _ 1 p.1) in
          let from : c ≤ e = leb-true c e p.0 in
          accepts-IsEnd B value r m.antecedent fr (n + 1) c e from (omega (arith, b.0)) b.1

      IsEnd-awaits : (e : ℕ) → EndsAntecedent value r (n + 1) c e → awaits x e ≡ true
      IsEnd-awaits e end =
          and_from (nat_le c e) (bit_at (accepted_at m.antecedent c (n + 1 - c)) (e - c) == 1) (le-leb c e end.0)
          (eq-eqb _ 1
          (bit-accepted_at m.antecedent c (n + 1 - c) (e - c) (omega (arith, end.0, end.1))
          (IsEnd-accepts B value r m.antecedent fr (n + 1) c e end)))

      -- an obligation that it awaits is live, or kept before
      owed-or-kept : (e : ℕ) → EndsAntecedent value r (n + 1) c e → (owed e ≡ true) ⊎ IsKept value s n e
      owed-or-kept e end =
          let from : e ≤ n = omega (arith, end.1) in
          let awaited : awaits_at m verdict e ≡ true =
          some_in-true 0 (e + 1) (λ c. is_open (verdict e c) && accepts m.antecedent c (e - c)) c (omega arith)
          (omega (arith, end.0))
          (and_from _ _
          (runs-is_open B value m.off r s verdict are e c
          (runs-before B value m.off r s verdict are e n c from runs))
          (IsEnd-accepts B value r m.antecedent fr (n + 1) c e end)) in
          let quiet : each_in e n (λ k. not (m.off k)) ≡ true =
          each_in-true e n (λ k. not (m.off k))
          (λ k low below. not_from_false (m.off k)
          (false_from_ne_true _ (runs.never_off k (omega (arith, end.0)) below))) in
          let live : is_unsettled m.consequent e (n - e) ≡ true → owed e ≡ true =
          λ h. and_from _ _ (and_from _ _ awaited quiet) h in
          elim (cases_Bool (is_unsettled m.consequent e (n - e))) [
            | inl is ↦ inl (live is)
            | inr isnt ↦ elim (cases_lt e n) [
              | inl early ↦ elim (settled-fate B value s m.consequent fs fills n e from isnt) [
                | inl kept ↦ inr kept
                | inr broken ↦
                    absurd
                    (runs.undecided n Failed (omega (arith, end.0)) (omega arith)
                    (e, (end.0, early, Leads-now e early end), broken))
              ]
              | inr late ↦
                  let none : n - e ≡ 0 = omega arith in
                  inl (live (ap (is_unsettled m.consequent e) none))
            ]
          ]
        where
          Leads-now : (e : ℕ) → e < n → EndsAntecedent value r (n + 1) c e → Leads (sat value n) r c (e + 1)
          Leads-now e early end =
              Leads-sat B value r n c (e + 1) (omega arith)
              (Leads-seen B value r (n + 1) c (e + 1) (omega (arith, end.1)) end.2)

      owed-unkept : (e : ℕ) → e ≤ n → owed e ≡ true → accepts m.consequent e (n - e) ≡ false → IsKept value s (n + 1) e
          → ⊥
      owed-unkept e from is isnt kept =
          let live =
          and_parts (awaits_at m verdict e && each_in e n (λ k. not (m.off k)))
          (is_unsettled m.consequent e (n - e)) is in
          let at = IsKept-accepts B value s m.consequent fs fills (n + 1) e kept in
          elim (cases_eq at.0 (n - e)) [
            | inl same ↦ both_ways _ isnt (ap (accepts m.consequent e) (sym same) ∙ at.2)
            | inr other ↦ unsettled-IsKept B value s m.consequent fs fills n e from live.1
                (accepts-IsKept B value s m.consequent fs fills n e at.0 (omega (arith, at.1)) at.2)
          ]

      broken-Fails : some_broken x fates ≡ true → IsDecided value r s (n + 1) c Failed
      broken-Fails h =
          let f =
          some_in-found 0 (suc n) (λ e. owed e && (is_broken (fate_at m n e) && awaits x e))
          (some_in-of (suc n) (λ e. owed e && (is_broken (fate_at m n e) && awaits x e))
          ∙ sym (some_broken-select x owed (fate_at m n) 0 (suc n)) ∙ h) in
          let e : ℕ = f.0 in
          let p = and_parts (owed e) (is_broken (fate_at m n e) && awaits x e) f.3 in
          let q = and_parts (is_broken (fate_at m n e)) (awaits x e) p.1 in
          let b = and_parts (not (accepts m.consequent e (n - e))) (positions_at m.consequent e (n + 1 - e) == 0) q.0 in
          let from : e ≤ n = omega (arith, f.2) in (
            e,
            awaits-IsEnd e q.1,
            places-IsBroken B value s m.consequent fs (n + 1) e (omega arith) (eqb-true _ 0 b.1)
                (owed-unkept e from p.0 (not-true _ b.0)),
          )

      unaccepted : (e : ℕ) → e ≤ n → (IsKept value s (n + 1) e → ⊥) → accepts m.consequent e (n - e) ≡ false
      unaccepted e from unkept =
          false_from_ne_true _
          (λ h. unkept (accepts-IsKept B value s m.consequent fs fills (n + 1) e (n - e) (omega arith) h))

      Fails-broken : IsDecided value r s (n + 1) c Failed → some_broken x fates ≡ true
      Fails-broken fails =
          let e : ℕ = fails.0 in
          let from : e ≤ n = omega (arith, fails.1.1) in
          let unkept : IsKept value s (n + 1) e → ⊥ = IsBroken-not_kept B value s m.consequent fs (n + 1) e fails.2 in
          let is : owed e ≡ true = elim (owed-or-kept e fails.1) [
            | inl is ↦ is
            | inr kept ↦ absurd (unkept (IsKept-later B value s m.consequent fs n (n + 1) e (omega arith) kept))
          ] in
          let broken : is_broken (fate_at m n e) ≡ true =
          and_from _ _ (not_from_false _ (unaccepted e from unkept))
          (eq-eqb _ 0 (IsBroken-places B value s m.consequent fs (n + 1) e (omega arith) fails.2)) in
          some_broken-select x owed (fate_at m n) 0 (suc n)
          ∙ sym (some_in-of (suc n) (λ e. owed e && (is_broken (fate_at m n e) && awaits x e)))
          ∙ some_in-true 0 (suc n) (λ e. owed e && (is_broken (fate_at m n e) && awaits x e)) e (omega arith)
          (omega arith) (and_from _ _ is (and_from _ _ broken (IsEnd-awaits e fails.1)))

      open-unkept : some_open x fates ≡ true → (e : ℕ) × EndsAntecedent value r (n + 1) c e
          × (IsKept value s (n + 1) e → ⊥)
      open-unkept h =
          let f =
          some_in-found 0 (suc n) (λ e. owed e && (not (is_ended (fate_at m n e)) && awaits x e))
          (some_in-of (suc n) (λ e. owed e && (not (is_ended (fate_at m n e)) && awaits x e))
          ∙ sym (some_open-select x owed (fate_at m n) 0 (suc n)) ∙ h) in
          let e : ℕ = f.0 in
          let p = and_parts (owed e) (not (is_ended (fate_at m n e)) && awaits x e) f.3 in
          let q = and_parts (not (is_ended (fate_at m n e))) (awaits x e) p.1 in
          let b = or_parts (accepts m.consequent e (n - e)) (positions_at m.consequent e (n + 1 - e) == 0)
          (not-true _ q.0) in
          (e, awaits-IsEnd e q.1, owed-unkept e (omega (arith, f.2)) p.0 b.0)

      each-kept : some_broken x fates ≡ false → some_open x fates ≡ false → (e : ℕ) → EndsAntecedent value r (n + 1) c e
          → IsKept value s (n + 1) e
      each-kept unbroken closed e end =
          let from : e ≤ n = omega (arith, end.1) in
          elim (owed-or-kept e end) [
            | inr kept ↦ IsKept-later B value s m.consequent fs n (n + 1) e (omega arith) kept
            | inl is ↦ elim (cases_Bool (accepts m.consequent e (n - e))) [
              | inl taken ↦ accepts-IsKept B value s m.consequent fs fills (n + 1) e (n - e) (omega arith) taken
              | inr untaken ↦ elim (cases_Bool (positions_at m.consequent e (n + 1 - e) == 0)) [
                | inl none ↦
                    absurd (both_ways _ unbroken (
                    some_broken-select x owed (fate_at m n) 0 (suc n)
                    ∙ sym (some_in-of (suc n) (λ e. owed e && (is_broken (fate_at m n e) && awaits x e)))
                    ∙ some_in-true 0 (suc n) (λ e. owed e && (is_broken (fate_at m n e) && awaits x e)) e (omega arith)
                    (omega arith)
                    (and_from _ _ is
                    (and_from _ _ (and_from _ _ (not_from_false _ untaken) none) (IsEnd-awaits e end)))
                    ))
                | inr some ↦
                    absurd (both_ways _ closed (
                    some_open-select x owed (fate_at m n) 0 (suc n)
                    ∙ sym (some_in-of (suc n) (λ e. owed e && (not (is_ended (fate_at m n e)) && awaits x e)))
                    ∙ some_in-true 0 (suc n) (λ e. owed e && (not (is_ended (fate_at m n e)) && awaits x e)) e
                    (omega arith) (omega arith)
                    (and_from _ _ is
                    (and_from _ _ (not_from_false _ (or_from _ _ untaken some)) (IsEnd-awaits e end)))
                    ))
              ]
            ]
          ]

      -- an attempt that stays is undecided
      stays-undecided : some_broken x fates ≡ false → (some_open x fates || not (x.positions == 0)) ≡ true
          → (d : Decision) → IsDecided value r s (n + 1) c d → ⊥
      stays-undecided unbroken more Failed is = both_ways _ unbroken (Fails-broken is)
      stays-undecided unbroken more Held is =
          elim (or_cases (some_open x fates) (not (x.positions == 0)) more) [
            | inl h ↦ let o = open-unkept h in o.2 (is.1 o.0 o.1)
            | inr h ↦ eqb-false x.positions 0 (not-true _ h)
                (IsOver-places B value r m.antecedent fr (n + 1) c (omega arith) is.2)
          ]
      stays-undecided unbroken more Vacuously is =
          elim (or_cases (some_open x fates) (not (x.positions == 0)) more) [
            | inl h ↦ let o = open-unkept h in is.0 o.0 o.1
            | inr h ↦ eqb-false x.positions 0 (not-true _ h)
                (IsOver-places B value r m.antecedent fr (n + 1) c (omega arith) is.1)
          ]

      -- an attempt that ends without a failure
      ends-so : some_broken x fates ≡ false → (some_open x fates || not (x.positions == 0)) ≡ false
          → (rest : Settlement) → ends x (if x.awaited == 0 then outcome.Vacuous n else outcome.Holds n) rest
          ≡ settled (verdict (n + 1) c) x rest
      ends-so unbroken closed rest =
          let p = or_parts (some_open x fates) (not (x.positions == 0)) closed in
          let over : IsAntecedentOver value r (n + 1) c =
          places-IsOver B value r m.antecedent fr (n + 1) c (omega arith)
          (eqb-true x.positions 0 (not-false _ p.1)) in
          elim (cases_Bool (x.awaited == 0)) [
            | inl none ↦
                let zeros = eqb-true x.awaited 0 none in
                let is : verdict (n + 1) c ≡ outcome.Vacuous n =
                decides B value m.off r s verdict are n c le Vacuously runs on (
                  λ e end. accepted_at-zero m.antecedent c (n + 1 - c) zeros (e
                      - c) (omega (arith, end.0, end.1)) (IsEnd-accepts B value r m.antecedent fr (n + 1) c e end),
                  over,
                ) in
                rw (none, is) refl
            | inr some ↦
                let at = some-accepted_at m.antecedent c (n + 1 - c) (eqb-false x.awaited 0 some) in
                let same : at.0 ≡ c + at.0 - c = omega arith in
                let end : EndsAntecedent value r (n + 1) c (c + at.0) =
                accepts-IsEnd B value r m.antecedent fr (n + 1) c (c + at.0) (omega arith) (omega (arith, at.1))
                (ap (accepts m.antecedent c) (sym same) ∙ at.2) in
                let is : verdict (n + 1) c ≡ outcome.Holds n =
                decides B value m.off r s verdict are n c le Held runs on
                ((c + at.0, end), each-kept unbroken p.0, over) in
                rw (some, is) refl
          ]

      pub settle-verdict : (rest : Settlement) → settle n fates x rest ≡ settled (verdict (n + 1) c) x rest
      settle-verdict rest =
          elim (cases_Bool (some_broken x fates)) [
            | inl broken ↦
                let is : verdict (n + 1) c ≡ outcome.Fails n =
                decides B value m.off r s verdict are n c le Failed runs on (broken-Fails broken) in
                rw (broken, is) refl
            | inr unbroken ↦ elim (cases_Bool (some_open x fates || not (x.positions == 0))) [
              | inl more ↦
                  let is : verdict (n + 1) c ≡ outcome.Open =
                  runs-Open B value m.off r s verdict are (n + 1) c
                  (goes_on B value m.off r s verdict are n c le runs on (stays-undecided unbroken more)) in
                  rw (unbroken, more, is) refl
              | inr closed ↦ rw (unbroken, closed) (ends-so unbroken closed rest)
            ]
          ]

    -- the clock goes on
    on-goes : clock_opened m n (select_ticks open_now (attempt_at m n) 0 (suc n))
        (select_ticks owed (obligation_at m n) 0 n) false
        ≡ record { state = standing_at m verdict (n + 1); decided = falling verdict n }
    on-goes =
        let more : suc n ≡ n + 1 = omega arith in
        let visits : all_visited m.antecedent n (select_ticks open_now (attempt_at m n) 0 (suc n))
        ≡ select_ticks open_now (attempt_at m (n + 1)) 0 (suc n) =
        visit_each-select m.antecedent n open_now (attempt_at m n) 0 (suc n)
        ∙ select-same open_now open_now
        (λ c. visited n (attempt_at m n c) (m.antecedent.step n (attempt_at m n c).positions))
        (attempt_at m (n + 1)) 0 (suc n) (λ c from below. refl)
        (λ c from below is. visited-attempt m n c (omega arith)) in
        let told : fates_in m.consequent n
        (with_opened (some_accepts m.antecedent n (select_ticks open_now (attempt_at m n) 0 (suc n))) m.consequent n
        (select_ticks owed (obligation_at m n) 0 n)) ≡ fates =
        ap (fates_in m.consequent n)
        (with_new-owed (some_accepts m.antecedent n (select_ticks open_now (attempt_at m n) 0 (suc n))) owed-new)
        ∙ fates-owed in
        let settles : all_settled n fates (select_ticks open_now (attempt_at m (n + 1)) 0 (suc n))
        ≡ settlement open_now (attempt_at m (n + 1)) (verdict (n + 1)) 0 (suc n) =
        settle_each-select n fates open_now (attempt_at m (n + 1)) (verdict (n + 1)) 0 (suc n)
        (λ c from below is. settle-verdict c (omega arith) (is_open-runs B value m.off r s verdict are n c is)) in
        let live : select_ticks (λ c. open_now c && is_open (verdict (n + 1) c)) (attempt_at m (n + 1)) 0 (suc n)
        ≡ select_ticks (λ c. is_open (verdict (n + 1) c)) (attempt_at m (n + 1)) 0 (n + 1) =
        select-same (λ c. open_now c && is_open (verdict (n + 1) c)) (λ c. is_open (verdict (n + 1) c))
        (attempt_at m (n + 1)) (attempt_at m (n + 1)) 0 (suc n)
        (λ c from below. sym (open-was_open B value m.off r s verdict are n c (omega arith)))
        (λ c from below is. refl)
        ∙ ap (λ k. select_ticks (λ c. is_open (verdict (n + 1) c)) (attempt_at m (n + 1)) 0 k) more in
        let fall : select_ticks (λ c. open_now c && not (is_open (verdict (n + 1) c)))
        (λ c. record { start = c; verdict = verdict (n + 1) c }) 0 (suc n) ≡ falling verdict n =
        select-same (λ c. open_now c && not (is_open (verdict (n + 1) c))) (λ c. falls_at n (verdict (n + 1) c))
        (λ c. record { start = c; verdict = verdict (n + 1) c })
        (λ c. record { start = c; verdict = verdict (n + 1) c }) 0 (suc n)
        (λ c from below. sym (falls-was_open B value m.off r s verdict are n c (omega arith)))
        (λ c from below is. refl)
        ∙ ap (λ k. select_ticks (λ c. falls_at n (verdict (n + 1) c))
        (λ c. record { start = c; verdict = verdict (n + 1) c })
        0 k) more in
        let whole : List Attempt → List Obligation → List Decided → Settled =
        λ xs os ds. record { state = record { now = n + 1; attempts = xs; obligations = os }; decided = ds } in
        ap (λ xs. settled_with n xs
        (fates_in m.consequent n
        (with_opened (some_accepts m.antecedent n (select_ticks open_now (attempt_at m n) 0 (suc n))) m.consequent n
        (select_ticks owed (obligation_at m n) 0 n)))) visits
        ∙ ap (λ fs. settled_with n (select_ticks open_now (attempt_at m (n + 1)) 0 (suc n)) fs) told
        ∙ ap (λ (r : Settlement). whole r.live (staying fates) r.decided) settles
        ∙ ap (λ xs. whole xs (staying fates)
        (settlement open_now (attempt_at m (n + 1)) (verdict (n + 1)) 0 (suc n)).decided) live
        ∙ ap (λ os. whole (standing_at m verdict (n + 1)).attempts os
        (settlement open_now (attempt_at m (n + 1)) (verdict (n + 1)) 0 (suc n)).decided) staying-owed
        ∙ ap (λ ds. whole (standing_at m verdict (n + 1)).attempts (standing_at m verdict (n + 1)).obligations ds) fall

  -- where it is disabled
  off-goes : m.off n ≡ true → clock_opened m n (select_ticks open_now (attempt_at m n) 0 (suc n))
      (select_ticks owed (obligation_at m n) 0 n) true
      ≡ record { state = standing_at m verdict (n + 1); decided = falling verdict n }
  off-goes off =
      let more : suc n ≡ n + 1 = omega arith in
      let closed : (c : ℕ) → c ≤ n → is_open (verdict (n + 1) c) ≡ false = λ c le.
      (elim (cases_Bool (open_now c)) [
        | inl on ↦ let is : verdict (n + 1) c ≡ outcome.Disabled n =
            off-Disabled B value m.off r s verdict are n c le on off in ap is_open is
        | inr was ↦ open-was_open B value m.off r s verdict are n c le ∙ ap (λ b. b && is_open (verdict (n + 1) c)) was
      ]) in
      let live : [] ≡ (standing_at m verdict (n + 1)).attempts =
      sym (select-none (λ c. is_open (verdict (n + 1) c)) (attempt_at m (n + 1)) 0 (n + 1)
      (λ c from below. closed c (omega arith))) in
      let ended : (e : ℕ) → e ≤ n → is_owed m verdict (n + 1) e ≡ false = λ e le.
      (let quiet : each_in e (n + 1) (λ k. not (m.off k)) ≡ false =
      false_from_ne_true _
      (λ h. both_ways _ (not-true _ (each_in-at e (n + 1) (λ k. not (m.off k)) n h le (omega arith))) off) in
      elim (cases_Bool (awaits_at m verdict e)) [
        | inl on ↦ rw (on, quiet) refl
        | inr none ↦ rw none refl
      ]) in
      let owed_none : [] ≡ (standing_at m verdict (n + 1)).obligations =
      sym (select-none (is_owed m verdict (n + 1)) (obligation_at m (n + 1)) 0 (n + 1)
      (λ e from below. ended e (omega arith))) in
      let falls : (c : ℕ) → c ≤ n → open_now c ≡ falls_at n (verdict (n + 1) c) = λ c le.
      (sym (falls-was_open B value m.off r s verdict are n c le ∙ ap (λ b. open_now c && not b) (closed c le)
      ∙ and-true (open_now c))) in
      let ended_at : ℕ → Decided = λ c. record { start = c; verdict = outcome.Disabled n } in
      let fallen_at : ℕ → Decided = λ c. record { start = c; verdict = verdict (n + 1) c } in
      let each : all_disabled n (select_ticks open_now (attempt_at m n) 0 (suc n))
      ≡ select_ticks open_now ended_at 0 (suc n) =
      disable_each-select n open_now (attempt_at m n) 0 (suc n) in
      let same : select_ticks open_now ended_at 0 (suc n)
      ≡ select_ticks (λ c. falls_at n (verdict (n + 1) c)) fallen_at 0 (suc n) =
      select-same open_now (λ c. falls_at n (verdict (n + 1) c)) ended_at fallen_at 0 (suc n)
      (λ c from below. falls c (omega arith))
      (λ c from below is. ap (λ v. record { start = c; verdict = v })
      (sym (off-Disabled B value m.off r s verdict are n c (omega arith) is off))) in
      let last : select_ticks (λ c. falls_at n (verdict (n + 1) c)) fallen_at 0 (suc n) ≡ falling verdict n =
      ap (select_ticks (λ c. falls_at n (verdict (n + 1) c)) fallen_at 0) more in
      let fall : all_disabled n (select_ticks open_now (attempt_at m n) 0 (suc n)) ≡ falling verdict n =
      each ∙ (same ∙ last) in
      let whole : List Attempt → List Obligation → List Decided → Settled =
      λ xs os ds. record { state = record { now = n + 1; attempts = xs; obligations = os }; decided = ds } in
      let next = standing_at m verdict (n + 1) in
      let rest : whole [] [] (falling verdict n) ≡ whole next.attempts next.obligations (falling verdict n) =
      ap (λ xs. whole xs [] (falling verdict n)) live ∙ ap (λ os. whole next.attempts os (falling verdict n)) owed_none
      in
      ap (λ ds. whole [] [] ds) fall ∙ rest
    where
      and-true : (b : Bool) → (b && true) ≡ b
      and-true true = refl
      and-true false = refl

  -- a clock that begins where the state stands for the meaning
  pub clock-goes : monitor_clock m (standing_at m verdict n)
      ≡ record { state = standing_at m verdict (n + 1); decided = falling verdict n }
  unfolding monitor_clock
  clock-goes =
      ap (λ xs. clock_opened m n xs (select_ticks owed (obligation_at m n) 0 n) (m.off n)) with-attempt
      ∙ (elim (cases_Bool (m.off n)) [
        | inl off ↦
            ap (clock_opened m n (select_ticks open_now (attempt_at m n) 0 (suc n))
            (select_ticks owed (obligation_at m n) 0 n)) off
            ∙ off-goes off
        | inr on ↦
            ap (clock_opened m n (select_ticks open_now (attempt_at m n) 0 (suc n))
            (select_ticks owed (obligation_at m n) 0 n)) on
            ∙ on-goes on
      ])
