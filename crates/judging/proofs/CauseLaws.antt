-- What the tables of both sides say of why an attempt failed.
use Rattle.std.proofs.Common.{◌≡◌, inl, inr, ℕ, ◌+◌, ◌-◌, ◌<◌, ◌≤◌, Bool, false, not, ◌&&◌}
use Rattle.std.proofs.Common.{List, [], ◌∷◌, ◌++◌, length, Option}
use Rattle.std.proofs.Common.{Some, None, sym, subst, ap, ◌∙◌, arith}
use Rattle.std.specs.Prelude.{IsTrue, ◌↔◌, Contains}
use Rattle.std.proofs.lemmas.Bool.{and_parts, and_from, both_ways, not-true, not_from_false, false_from_ne_true}
use Rattle.std.proofs.lemmas.Bool.{cases_lt}
use Rattle.std.proofs.lemmas.List.Elements.{Contains-push, Contains-push_cases, Contains-append_left}
use Rattle.assertions.specs.declared.sequence.Boolean.{Boolean}
use Rattle.assertions.specs.Quantifiers.{first_true, some_in}
use Rattle.assertions.proofs.Quantifiers.{some_in-found, some_in-true, first_true-found, first_true-none}
use Rattle.assertions.specs.Segments.{Seq, sat, is_match, longest}
use Rattle.assertions.specs.Attempts.{Antecedent, EndsAntecedent, IsBroken, Fails, is_leading, is_possible}
use Rattle.assertions.proofs.Segments.{Matches-forward, Matches-longest, is_match-Matches, Matches-is_match}
use Rattle.assertions.proofs.Attempts.{is_leading-Leads, Leads-is_leading}
use Rattle.judging.specs.declared.cause.Cause.{Cause}
use Rattle.judging.specs.Causes.{IsCause, IsEndTick}
use Rattle.assertions.specs.declared.assertion.Assertion.{Assertion}
use Rattle.assertions.specs.Shapes.{shape}
use Rattle.assertions.specs.Verdicts.{antecedent_of}
use Rattle.judging.specs.declared.sides.Sides.{Sides}
use Rattle.judging.specs.Tables.{marks, has_link, seen_value, HasSeen}
use Rattle.judging.specs.Courses.{AreSides}
use Rattle.judging.proofs.DecisionLaws.{broken_here, first_true-same}
use Rattle.judging.proofs.ShiftLaws.{end_down, end_up, broken_down, broken_up}

module _ (B : Type 0) (value : B → ℕ → Bool) (s : Seq B) (n : ℕ) where
  impossible-IsBroken : (e : ℕ) → is_possible value s n e ≡ false → IsBroken value s n e
  impossible-IsBroken e h j m =
      both_ways _ h
      (some_in-true e (e + longest s + 1) (λ j. is_match (sat value n) s e j) j
      (Matches-forward B (sat value n) s e j m) (omega (arith, Matches-longest B (sat value n) s e j m))
      (Matches-is_match B (sat value n) s e j m))

  IsBroken-impossible : (e : ℕ) → IsBroken value s n e → is_possible value s n e ≡ false
  IsBroken-impossible e h =
      false_from_ne_true _ (λ t. let f = some_in-found e (e + longest s + 1) (λ j. is_match (sat value n) s e j) t in
      h f.0 (is_match-Matches B (sat value n) s e f.0 f.3))

-- The antecedent ends with a place, and no match of the consequent is possible from there.
abbrev breaks : {B : Type 0} → (B → ℕ → Bool) → ℕ → Antecedent B → Seq B → ℕ → Bool
breaks here n r s e = is_leading (sat here n) r 0 (e + 1) && not (is_possible here s n e)

-- The attempt by places, where here is what was seen, and by ticks.
module _ (B : Type 0) (value here : B → ℕ → Bool) (c n : ℕ)
    (same : (b : B) (k : ℕ) → k < n → here b k ≡ value b (c + k)) (r : Antecedent B) (s : Seq B) where
  breaks-end : (k : ℕ) → k < n → IsTrue (breaks here n r s k) → EndsAntecedent value r (c + n) c (c + k)
  breaks-end k below t =
      end_up B value here c n same r k (
        omega arith,
        below,
        is_leading-Leads B (sat here n) r 0 (k + 1)
            (and_parts (is_leading (sat here n) r 0 (k + 1)) (not (is_possible here s n k)) t).0,
      )

  breaks-broken : (k : ℕ) → IsTrue (breaks here n r s k) → IsBroken value s (c + n) (c + k)
  breaks-broken k t =
      broken_up B value here c n same s k
      (impossible-IsBroken B here s n k
      (not-true _ (and_parts (is_leading (sat here n) r 0 (k + 1)) (not (is_possible here s n k)) t).1))

  -- an end with a broken obligation is one of these places
  broken-breaks : (e : ℕ) → EndsAntecedent value r (c + n) c e → IsBroken value s (c + n) e
      → IsTrue (breaks here n r s (e - c))
  broken-breaks e end broken =
      let at : e ≡ c + (e - c) = omega (arith, end.0) in
      let down = end_down B value here c n same r e end in
      and_from (is_leading (sat here n) r 0 (e - c + 1)) (not (is_possible here s n (e - c)))
      (Leads-is_leading B (sat here n) r 0 (e - c + 1) down.2)
      (not_from_false _
      (IsBroken-impossible B here s n (e - c)
      (broken_down B value here c n same s (e - c) (subst (λ k. IsBroken value s (c + n) k) at broken))))

  none_broken : first_true 0 n (breaks here n r s) ≡ None → Fails value r s (c + n) c → ⊥
  none_broken is h =
      let from : c ≤ h.0 = h.1.0 in
      let below : h.0 < c + n = h.1.1 in
      both_ways _ (first_true-none 0 n (breaks here n r s) is (h.0 - c) (omega arith) (omega arith))
      (broken-breaks h.0 h.1 h.2)

  module _ (ends : List Bool) (at : (j : ℕ) → j < n + 1 → marks ends j ≡ is_leading (sat here n) r 0 j) where
    placed-IsEnd : (e : ℕ) → IsEndTick ends c n e → EndsAntecedent value r (c + n) c e
    placed-IsEnd e p =
        let below : p.0 + 1 < n + 1 = omega (arith, p.1) in
        subst (λ k. EndsAntecedent value r (c + n) c k) (sym p.3)
        (end_up B value here c n same r p.0
        (omega arith, p.1, is_leading-Leads B (sat here n) r 0 (p.0 + 1) (sym (at (p.0 + 1) below) ∙ p.2)))

    IsEnd-placed : (e : ℕ) → EndsAntecedent value r (c + n) c e → IsEndTick ends c n e
    IsEnd-placed e end =
        let down = end_down B value here c n same r e end in
        let from : c ≤ e = end.0 in
        let below : e < c + n = end.1 in (
          e - c,
          omega arith,
          at (e - c + 1) (omega arith) ∙ Leads-is_leading B (sat here n) r 0 (e - c + 1) down.2,
          omega arith,
        )

    first_broken : (k : ℕ) (cause : Cause) → first_true 0 n (breaks here n r s) ≡ Some k → cause.broken ≡ c + k
        → ((e : ℕ) → Contains cause.ends.items e ↔ IsEndTick ends c n e) → IsCause value r s (c + n) c cause
    first_broken k cause is broken lists =
        let f = first_true-found 0 n (breaks here n r s) k is in
        record {
          ends = λ e. (λ h. placed-IsEnd e ((lists e).0 h), λ h. (lists e).1 (IsEnd-placed e h));
          is_end = subst (λ e. EndsAntecedent value r (c + n) c e) (sym broken) (breaks-end k f.below f.found);
          is_broken = subst (λ e. IsBroken value s (c + n) e) (sym broken) (breaks-broken k f.found);
          first = λ e end below bad.
              let from : c ≤ e = end.0 in
              both_ways _ (f.least (e - c) (omega arith) (omega (arith, below, broken))) (broken-breaks e end bad);
        }

-- the same by the tables of both sides, of which ends and consequents are
module _ (value : Boolean → ℕ → Bool) (a : Assertion) (start end : ℕ) (values : List (List Bool)) (sides : Sides)
    (seen : HasSeen value start values) (long : start + length values ≡ end) (are : AreSides values a sides) where
  abbrev breaks_there : ℕ → Bool
  breaks_there e =
      marks sides.ends.items (e + 1) && not (some_in e sides.room (has_link sides.consequents e))

  there_here : first_true 0 (length values) breaks_there
      ≡ first_true 0 (length values) (breaks (seen_value values) (length values) (antecedent_of a) (shape a.consequent))
  there_here =
      first_true-same 0 (length values) breaks_there
      (breaks (seen_value values) (length values) (antecedent_of a) (shape a.consequent))
      (λ e from below. broken_here Boolean (seen_value values) (length values) (antecedent_of a) (shape a.consequent)
      sides.count sides.room sides.ends.items sides.obligations.items sides.consequents are.seen are.ends are.wide
      are.obliged are.consequents e below)

  -- what is found in these tables is the first of the attempt's broken obligations
  module _ (o : Option ℕ) (below : ℕ) (ends : List Bool) (len : below ≡ length values)
      (same : ends ≡ sides.ends.items)
      (found : o ≡ first_true 0 below
      (λ e. marks ends (e + 1) && not (some_in e sides.room (has_link sides.consequents e)))) where
    searched : o
        ≡ first_true 0 (length values)
        (breaks (seen_value values) (length values) (antecedent_of a) (shape a.consequent))
    searched =
        found
        ∙ ap (λ k. first_true 0 k
        (λ e. marks ends (e + 1) && not (some_in e sides.room (has_link sides.consequents e))))
        len
        ∙ ap (λ (l : List Bool). first_true 0 (length values)
        (λ e. marks l (e + 1) && not (some_in e sides.room (has_link sides.consequents e)))) same
        ∙ there_here

    pub none_law : o ≡ None → Fails value (antecedent_of a) (shape a.consequent) end start → ⊥
    none_law is =
        subst (λ n. Fails value (antecedent_of a) (shape a.consequent) n start → ⊥) long
        (none_broken Boolean value (seen_value values) start (length values) (λ b k below. seen.each b k below)
        (antecedent_of a) (shape a.consequent) (sym searched ∙ is))

    pub some_law : (k : ℕ) (cause : Cause) → o ≡ Some k → cause.broken ≡ start + k
        → ((e : ℕ) → Contains cause.ends.items e ↔ IsEndTick ends start below e)
        → IsCause value (antecedent_of a) (shape a.consequent) end start cause
    some_law k cause is broken lists =
        let there : (e : ℕ) → Contains cause.ends.items e ↔ IsEndTick ends start (length values) e =
        subst (λ n. (e : ℕ) → Contains cause.ends.items e ↔ IsEndTick ends start n e) len lists in
        let at : (j : ℕ) → j < length values + 1
        → marks ends j ≡ is_leading (sat (seen_value values) (length values)) (antecedent_of a) 0 j =
        λ j inside. ap (λ (l : List Bool). marks l j) same ∙ are.ends j (omega (arith, are.seen)) in
        subst (λ n. IsCause value (antecedent_of a) (shape a.consequent) n start cause) long
        (first_broken Boolean value (seen_value values) start (length values) (λ b k below. seen.each b k below)
        (antecedent_of a) (shape a.consequent) ends at k cause (sym searched ∙ is) broken there)

-- one place more
pub placed_more : (ends : List Bool) (start place : ℕ) (old new : List ℕ) → new ≡ old ++ (start + place) ∷ []
    → IsTrue (marks ends (place + 1)) → ((t : ℕ) → Contains old t ↔ IsEndTick ends start place t)
    → (t : ℕ) → Contains new t ↔ IsEndTick ends start (place + 1) t
placed_more ends start place old new pushed here lists t = (
  λ h. elim (Contains-push_cases old (start + place) t (subst (λ (l : List ℕ). Contains l t) pushed h)) [
    | inl h ↦ let p = (lists t).0 h in (p.0, omega (arith, p.1), p.2, p.3)
    | inr e ↦ (place, omega arith, here, sym e)
  ],
  λ p. elim (cases_lt p.0 place) [
    | inl lt ↦
        subst (λ (l : List ℕ). Contains l t) (sym pushed)
        (Contains-append_left old ((start + place) ∷ []) t ((lists t).1 (p.0, lt, p.2, p.3)))
    | inr ge ↦
        let at : p.0 ≡ place = omega (arith, p.1, ge) in
        let is : start + place ≡ t = omega (arith, at, p.3) in
        subst (λ (l : List ℕ). Contains l t) (sym pushed)
        (subst (λ n. Contains (old ++ (start + place) ∷ []) n) is (Contains-push old (start + place)))
  ],
)

pub placed_skip : (ends : List Bool) (start place : ℕ) (old : List ℕ) → marks ends (place + 1) ≡ false
    → ((t : ℕ) → Contains old t ↔ IsEndTick ends start place t)
    → (t : ℕ) → Contains old t ↔ IsEndTick ends start (place + 1) t
placed_skip ends start place old not_here lists t = (
  λ h. let p = (lists t).0 h in (p.0, omega (arith, p.1), p.2, p.3),
  λ p. elim (cases_lt p.0 place) [
    | inl lt ↦ (lists t).1 (p.0, lt, p.2, p.3)
    | inr ge ↦
        let at : p.0 ≡ place = omega (arith, p.1, ge) in
        absurd (both_ways _ not_here (subst (λ n. IsTrue (marks ends (n + 1))) at p.2))
  ],
)

pub placed_none : (ends : List Bool) (start t : ℕ) → Contains [] t ↔ IsEndTick ends start 0 t
placed_none ends start t = (λ h. absurd (omega (arith, h.1)), λ p. absurd (omega (arith, p.1)))
