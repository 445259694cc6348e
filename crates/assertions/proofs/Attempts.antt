-- The tests on attempts and the statements about them say the same.
use Rattle.std.proofs.Common.{◌≡◌, inl, inr, ℕ, ◌+◌, Bool, true, false, not, ◌&&◌, ◌||◌, Some, refl, ap, ◌∙◌, arith}
use Rattle.std.specs.Prelude.{IsTrue}
use Rattle.std.proofs.lemmas.Bool.{or_cases, or_left, or_right, and_parts, and_from, both_ways, not-true}
use Rattle.std.proofs.lemmas.Bool.{not_from_false, false_from_ne_true, cases_Bool}
use Rattle.assertions.specs.declared.decision.Decision.{Decision}
use Rattle.assertions.specs.declared.decision.Decision.TheVariants.{Held, Vacuously, Failed}
use Rattle.assertions.specs.Segments.{Seq, sat, is_match, is_first_match, longest, Matches, MatchesFirst}
use Rattle.assertions.specs.Attempts.{Antecedent, MatchesBy, Leads, is_match_by, is_leading}
use Rattle.assertions.specs.Attempts.{EndsAntecedent, IsKept, IsBroken, IsAntecedentOver, IsDecided, has_end, is_kept}
use Rattle.assertions.specs.Attempts.{is_possible}
use Rattle.assertions.specs.Attempts.{goes_on, is_failed, all_kept, decide, decision}
use Rattle.assertions.proofs.Quantifiers.{some_in-found, some_in-true, each_in-at, each_in-true}
use Rattle.assertions.proofs.Segments.{Matches-forward, Matches-longest, is_match-Matches, Matches-is_match}

decide-failed : (f g h k : Bool) → decide f g h k ≡ Some Failed → f ≡ true
decide-failed true g h k e = refl
decide-failed false true h k e = cc
decide-failed false false false k e = cc
decide-failed false false true true e = cc
decide-failed false false true false e = cc

decide-vacuously : (f g h k : Bool) → decide f g h k ≡ Some Vacuously → (g ≡ false) × (h ≡ false)
decide-vacuously true g h k e = cc
decide-vacuously false true h k e = cc
decide-vacuously false false false k e = (refl, refl)
decide-vacuously false false true true e = cc
decide-vacuously false false true false e = cc

decide-held : (f g h k : Bool) → decide f g h k ≡ Some Held → (g ≡ false) × (h ≡ true) × (k ≡ true)
decide-held true g h k e = cc
decide-held false true h k e = cc
decide-held false false false k e = cc
decide-held false false true true e = (refl, refl, refl)
decide-held false false true false e = cc

module _ (B : Type 0) (holds : B → ℕ → Bool) where
  is_first-MatchesFirst : (r : Seq B) (i j : ℕ) → IsTrue (is_first_match holds r i j) → MatchesFirst holds r i j
  is_first-MatchesFirst r i j h =
      let p = and_parts (is_match holds r i j) _ h in (
        is_match-Matches B holds r i j p.0,
        λ k below m.
            both_ways _
            (not-true _ (each_in-at i j (λ k. not (is_match holds r i k)) k p.1 (Matches-forward B holds r i k m)
            below))
            (Matches-is_match B holds r i k m),
      )

  MatchesFirst-is_first : (r : Seq B) (i j : ℕ) → MatchesFirst holds r i j → IsTrue (is_first_match holds r i j)
  MatchesFirst-is_first r i j h =
      and_from (is_match holds r i j) _ (Matches-is_match B holds r i j h.0)
      (each_in-true i j (λ k. not (is_match holds r i k))
      (λ k from below. not_from_false _
      (false_from_ne_true _ (λ t. h.1 k below (is_match-Matches B holds r i k t)))))

  is_match_by-MatchesBy : (first : Bool) (r : Seq B) (i j : ℕ) → IsTrue (is_match_by holds first r i j)
      → MatchesBy holds first r i j
  is_match_by-MatchesBy false r i j h = is_match-Matches B holds r i j h
  is_match_by-MatchesBy true r i j h = is_first-MatchesFirst r i j h

  MatchesBy-is_match_by : (first : Bool) (r : Seq B) (i j : ℕ) → MatchesBy holds first r i j
      → IsTrue (is_match_by holds first r i j)
  MatchesBy-is_match_by false r i j h = Matches-is_match B holds r i j h
  MatchesBy-is_match_by true r i j h = MatchesFirst-is_first r i j h

  MatchesBy-Matches : (first : Bool) (r : Seq B) (i j : ℕ) → MatchesBy holds first r i j → Matches holds r i j
  MatchesBy-Matches false r i j h = h
  MatchesBy-Matches true r i j h = h.0

  pub is_leading-Leads : (r : Antecedent B) (i j : ℕ) → IsTrue (is_leading holds r i j) → Leads holds r i j
  is_leading-Leads r i j h = is_match_by-MatchesBy r.first r.sequence i j h

  pub Leads-is_leading : (r : Antecedent B) (i j : ℕ) → Leads holds r i j → IsTrue (is_leading holds r i j)
  Leads-is_leading r i j h = MatchesBy-is_match_by r.first r.sequence i j h

  -- the sequence matches there
  pub Leads-Matches : (r : Antecedent B) (i j : ℕ) → Leads holds r i j → Matches holds r.sequence i j
  Leads-Matches r i j h = MatchesBy-Matches r.first r.sequence i j h

module _ (B : Type 0) (value : B → ℕ → Bool) (r : Antecedent B) (s : Seq B) (n : ℕ) where
  is_kept-IsKept : (e : ℕ) → IsTrue (is_kept value s n e) → IsKept value s n e
  is_kept-IsKept e h =
      let f = some_in-found e (n + 1) (λ j. is_match (sat value n) s e j) h in
      (f.0, omega (arith, f.2), is_match-Matches B (sat value n) s e f.0 f.3)

  IsKept-is_kept : (e : ℕ) → IsKept value s n e → IsTrue (is_kept value s n e)
  IsKept-is_kept e h =
      some_in-true e (n + 1) (λ j. is_match (sat value n) s e j) h.0 (Matches-forward B (sat value n) s e h.0 h.2)
      (omega (arith, h.1)) (Matches-is_match B (sat value n) s e h.0 h.2)

  impossible-IsBroken : (e : ℕ) → is_possible value s n e ≡ false → IsBroken value s n e
  impossible-IsBroken e h j m =
      let t =
      some_in-true e (e + longest s + 1) (λ j. is_match (sat value n) s e j) j
      (Matches-forward B (sat value n) s e j m) (omega (arith, Matches-longest B (sat value n) s e j m))
      (Matches-is_match B (sat value n) s e j m) in
      both_ways _ h t

  IsBroken-impossible : (e : ℕ) → IsBroken value s n e → is_possible value s n e ≡ false
  IsBroken-impossible e h =
      false_from_ne_true _ (λ t. let f = some_in-found e (e + longest s + 1) (λ j. is_match (sat value n) s e j) t in
      h f.0 (is_match-Matches B (sat value n) s e f.0 f.3))

  not_on-IsOver : (c : ℕ) → goes_on value r n c ≡ false → IsAntecedentOver value r n c
  not_on-IsOver c h j above m =
      both_ways _ h (some_in-true (n + 1) (c + longest r.sequence + 1) (λ j. is_leading (sat value n) r c j) j
      (omega arith)
      (omega (arith, Matches-longest B (sat value n) r.sequence c j (Leads-Matches B (sat value n) r c j m)))
      (Leads-is_leading B (sat value n) r c j m))

  IsOver-not_on : (c : ℕ) → IsAntecedentOver value r n c → goes_on value r n c ≡ false
  IsOver-not_on c h =
      false_from_ne_true _ (λ t. let f =
      some_in-found (n + 1) (c + longest r.sequence + 1) (λ j. is_leading (sat value n) r c j) t
      in h f.0 (omega (arith, f.1)) (is_leading-Leads B (sat value n) r c f.0 f.3))

  has_end-IsEnd : (c : ℕ) → IsTrue (has_end value r n c) → (e : ℕ) × EndsAntecedent value r n c e
  has_end-IsEnd c h =
      let f = some_in-found c n (λ e. is_leading (sat value n) r c (e + 1)) h in
      (f.0, (f.1, f.2, is_leading-Leads B (sat value n) r c (f.0 + 1) f.3))

  IsEnd-has_end : (c e : ℕ) → EndsAntecedent value r n c e → IsTrue (has_end value r n c)
  IsEnd-has_end c e h =
      some_in-true c n (λ e. is_leading (sat value n) r c (e + 1)) e h.0 h.1
      (Leads-is_leading B (sat value n) r c (e + 1) h.2)

  is_failed-Failed : (c : ℕ) → IsTrue (is_failed value r s n c) → IsDecided value r s n c Failed
  is_failed-Failed c h =
      let f = some_in-found c n (λ e. is_leading (sat value n) r c (e + 1) && not (is_possible value s n e)) h in
      let p = and_parts (is_leading (sat value n) r c (f.0 + 1)) (not (is_possible value s n f.0)) f.3 in
      (f.0, (f.1, f.2, is_leading-Leads B (sat value n) r c (f.0 + 1) p.0), impossible-IsBroken f.0 (not-true _ p.1))

  Failed-is_failed : (c : ℕ) → IsDecided value r s n c Failed → IsTrue (is_failed value r s n c)
  Failed-is_failed c h =
      some_in-true c n (λ e. is_leading (sat value n) r c (e + 1) && not (is_possible value s n e)) h.0 h.1.0 h.1.1
      (and_from _ _ (Leads-is_leading B (sat value n) r c (h.0 + 1) h.1.2)
      (not_from_false _ (IsBroken-impossible h.0 h.2)))

  all_kept-each : (c : ℕ) → IsTrue (all_kept value r s n c) → (e : ℕ) → EndsAntecedent value r n c e
      → IsKept value s n e
  all_kept-each c h e end =
      let o = each_in-at c n (λ e. not (is_leading (sat value n) r c (e + 1)) || is_kept value s n e) e h end.0 end.1 in
      elim (or_cases (not (is_leading (sat value n) r c (e + 1))) (is_kept value s n e) o) [
        | inl off ↦ absurd (both_ways _ (not-true _ off) (Leads-is_leading B (sat value n) r c (e + 1) end.2))
        | inr on ↦ is_kept-IsKept e on
      ]

  each-all_kept : (c : ℕ) → ((e : ℕ) → EndsAntecedent value r n c e → IsKept value s n e)
      → IsTrue (all_kept value r s n c)
  each-all_kept c h =
      each_in-true c n (λ e. not (is_leading (sat value n) r c (e + 1)) || is_kept value s n e) (λ e from below.
      elim (cases_Bool (is_leading (sat value n) r c (e + 1))) [
        | inl on ↦ or_right (not (is_leading (sat value n) r c (e + 1))) (is_kept value s n e)
            (IsKept-is_kept e (h e (from, below, is_leading-Leads B (sat value n) r c (e + 1) on)))
        | inr off ↦ or_left (not (is_leading (sat value n) r c (e + 1))) (is_kept value s n e) (not_from_false _ off)
      ])

  -- a decision is as stated
  pub decision-IsDecided : (c : ℕ) (d : Decision) → decision value r s n c ≡ Some d → IsDecided value r s n c d
  unfolding decision
  decision-IsDecided c Held h =
      let p = decide-held _ _ _ _ h in
      (has_end-IsEnd c p.1, all_kept-each c p.2, not_on-IsOver c p.0)
  decision-IsDecided c Vacuously h =
      let p = decide-vacuously _ _ _ _ h in
      (λ e end. both_ways _ p.1 (IsEnd-has_end c e end), not_on-IsOver c p.0)
  decision-IsDecided c Failed h = is_failed-Failed c (decide-failed _ _ _ _ h)

  -- what is stated is decided so
  pub IsDecided-decision : (c : ℕ) (d : Decision) → IsDecided value r s n c d → decision value r s n c ≡ Some d
  unfolding decision
  IsDecided-decision c Failed h = rw (Failed-is_failed c h)
  IsDecided-decision c Held h =
      let f : is_failed value r s n c ≡ false =
      false_from_ne_true _ (λ t. let x = is_failed-Failed c t in let k = h.1 x.0 x.1 in x.2 k.0 k.2) in
      let g : goes_on value r n c ≡ false = IsOver-not_on c h.2 in
      let e : has_end value r n c ≡ true = IsEnd-has_end c h.0.0 h.0.1 in
      let k : all_kept value r s n c ≡ true = each-all_kept c h.1 in
      ap (λ f. decide f (goes_on value r n c) (has_end value r n c) (all_kept value r s n c)) f
      ∙ ap (λ g. decide false g (has_end value r n c) (all_kept value r s n c)) g
      ∙ ap (λ e. decide false false e (all_kept value r s n c)) e
      ∙ ap (λ k. decide false false true k) k
  IsDecided-decision c Vacuously h =
      let f : is_failed value r s n c ≡ false =
      false_from_ne_true _ (λ t. let x = is_failed-Failed c t in h.0 x.0 x.1) in
      let g : goes_on value r n c ≡ false = IsOver-not_on c h.1 in
      let e : has_end value r n c ≡ false = false_from_ne_true _ (λ t. let x = has_end-IsEnd c t in h.0 x.0 x.1) in
      ap (λ f. decide f (goes_on value r n c) (has_end value r n c) (all_kept value r s n c)) f
      ∙ ap (λ g. decide false g (has_end value r n c) (all_kept value r s n c)) g
      ∙ ap (λ e. decide false false e (all_kept value r s n c)) e
