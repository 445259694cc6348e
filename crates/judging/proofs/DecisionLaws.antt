-- What the tables of both sides say of an attempt.
use Rattle.std.proofs.Common.{◌≡◌, inl, inr, ℕ, zero, suc, ◌+◌, ◌-◌, ◌<◌, ◌≤◌, Bool, true, false, not, ◌&&◌, ◌||◌}
use Rattle.std.proofs.Common.{if◌then◌else◌, List, [], ◌∷◌, ◌++◌, length, Option, Some, None, refl, sym, ap, ◌∙◌, arith}
use Rattle.std.proofs.Common.{nat_le, length-append}
use Rattle.std.specs.Prelude.{IsTrue, ◌==◌, slice_get}
use Rattle.std.proofs.Math.ListN.{get_or-append}
use Rattle.std.proofs.lemmas.Bool.{and_from, false_from_ne_true, cases_lt, le-leb}
use Rattle.assertions.specs.declared.sequence.Boolean.{Boolean}
use Rattle.assertions.specs.declared.sequence.Boolean.TheVariants.{One, Listed}
use Rattle.assertions.specs.declared.decision.Decision.{Decision}
use Rattle.assertions.specs.Quantifiers.{some_in, each_in, or_later, first_in, first_true_of, first_true}
use Rattle.assertions.proofs.Quantifiers.{some_in-same, some_in-cut, each_in-at, each_in-true, first_in-step}
use Rattle.assertions.specs.Segments.{Seq, sat, is_match, longest}
use Rattle.assertions.specs.Attempts.{Antecedent, is_match_by, is_leading}
use Rattle.assertions.specs.Attempts.{has_end, is_failed, all_kept, goes_on, is_possible, is_kept, decision, decided_at}
use Rattle.assertions.specs.Attempts.{disabled_or, verdict_by}
use Rattle.assertions.proofs.Segments.{Matches-longest, is_match-Matches}
use Rattle.assertions.proofs.Attempts.{is_leading-Leads, Leads-Matches}
use Rattle.signals.specs.declared.verdict.Verdict.TheVariants as outcome
use Rattle.expressions.specs.declared.expr.Expr.{Expr}
use Rattle.expressions.specs.Terms.{Samples}
use Rattle.assertions.specs.Shapes.{is_true_at, expression_at, value_in, off_in}
use Rattle.judging.specs.Tables.{marks, row_at, has_link, seen_value, off_at, seen_end, HasSeen, IsRow, IsRelation}
use Rattle.judging.proofs.RowLaws.{same_truth, get_or_end}
use Rattle.judging.proofs.ShiftLaws.{decision_seen}

each_in_same : (i e : ℕ) (p q : ℕ → Bool) → ((k : ℕ) → i ≤ k → k < e → p k ≡ q k) → each_in i e p ≡ each_in i e q
each_in_same i e p q h = same_truth _ _
    (λ t. each_in-true i e q (λ k from below. sym (h k from below) ∙ each_in-at i e p k t from below))
    (λ t. each_in-true i e p (λ k from below. h k from below ∙ each_in-at i e q k t from below))

module _ (B : Type 0) (value : B → ℕ → Bool) (n : ℕ) where
  -- a search as far as any match may go
  far_enough : (r : Seq B) (start from count : ℕ) → start + longest r + 1 ≤ count
      → some_in from count (λ j. is_match (sat value n) r start j)
      ≡ some_in from (start + longest r + 1) (λ j. is_match (sat value n) r start j)
  far_enough r start from count within =
      some_in-cut from (start + longest r + 1) count (λ j. is_match (sat value n) r start j) within
      (λ k above below. false_from_ne_true _
      (λ t. absurd
      (omega (arith, Matches-longest B (sat value n) r start k (is_match-Matches B (sat value n) r start k t)))))

  leading_far : (r : Antecedent B) (from count : ℕ) → longest r.sequence + 1 ≤ count
      → some_in from count (λ j. is_leading (sat value n) r 0 j)
      ≡ some_in from (0 + longest r.sequence + 1) (λ j. is_leading (sat value n) r 0 j)
  leading_far r from count within =
      some_in-cut from (0 + longest r.sequence + 1) count (λ j. is_leading (sat value n) r 0 j) (omega arith)
      (λ k above below. false_from_ne_true _ (λ t.
      let m = Leads-Matches B (sat value n) r 0 k (is_leading-Leads B (sat value n) r 0 k t) in
      absurd (omega (arith, Matches-longest B (sat value n) r.sequence 0 k m))))

  -- which of the places of a row count
  and_true : (b : Bool) → (b && true) ≡ b
  and_true false = refl
  and_true true = refl

  counted_by : (first : Bool) (r : Seq B) (count : ℕ) (ends : List Bool)
      → ((j : ℕ) → j < count → marks ends j ≡ is_match (sat value n) r 0 j) → (j : ℕ) → j < count
      → (marks ends j && (not first || each_in 0 j (λ k. not (marks ends k)))) ≡ is_match_by (sat value n) first r 0 j
  counted_by false r count ends at j below = and_true (marks ends j) ∙ at j below
  counted_by true r count ends at j below =
      ap (λ b. b && each_in 0 j (λ k. not (marks ends k))) (at j below)
      ∙ ap (λ b. is_match (sat value n) r 0 j && b)
      (each_in_same 0 j (λ k. not (marks ends k)) (λ k. not (is_match (sat value n) r 0 k))
      (λ k from less. ap not (at k (omega arith))))

  pub leading : (r : Antecedent B) (count : ℕ) (ends row : List Bool)
      → IsRow (λ j. marks ends j && (not r.first || each_in 0 j (λ k. not (marks ends k)))) count row
      → ((j : ℕ) → j < count → marks ends j ≡ is_match (sat value n) r.sequence 0 j) → (j : ℕ) → j < count
      → marks row j ≡ is_leading (sat value n) r 0 j
  leading r count ends row is at j below =
      is.each j below ∙ counted_by r.first r.sequence count ends at j below

  -- the row of the first tick
  pub first_row : (r : Seq B) (count : ℕ) (starts ends : List Bool) (table : List (List Bool)) → 0 < count
      → IsRow (λ j. (j == 0) && true) count starts → IsRelation (is_match (sat value n) r) starts table
      → ends ≡ row_at table 0
      → IsRow (λ j. (j == 0) && true) count starts × ((j : ℕ) → j < count → marks ends j ≡ is_match (sat value n) r 0 j)
  first_row r count starts ends table some start rel is = (
    start,
    λ j below.
        ap (λ (l : List Bool). marks l j) is ∙ rel.each 0 j (start.each 0 some) (omega (arith, start.long)),
  )

  module _ (r : Antecedent B) (s : Seq B) (count room : ℕ) (ends obligations : List Bool)
      (consequents : List (List Bool)) (within : n < count)
      (at : (j : ℕ) → j < count → marks ends j ≡ is_leading (sat value n) r 0 j) where
    pub goes_on_law : longest r.sequence < count → some_in (n + 1) count (marks ends) ≡ goes_on value r n 0
    goes_on_law long =
        some_in-same (n + 1) count (marks ends) (λ j. is_leading (sat value n) r 0 j) (λ j from below. at j below)
        ∙ leading_far r (n + 1) count (omega arith)

    pub has_end_law : some_in 0 n (λ e. marks ends (e + 1)) ≡ has_end value r n 0
    has_end_law =
        some_in-same 0 n (λ e. marks ends (e + 1)) (λ e. is_leading (sat value n) r 0 (e + 1))
        (λ e from below. at (e + 1) (omega arith))

    module _ (wide : n + longest s < room)
        (obliged : IsRow (λ e. nat_le (e + 1) n && marks ends (e + 1)) room obligations)
        (rel : IsRelation (is_match (sat value n) s) obligations consequents) where
      from_end : (e j : ℕ) → e < n → IsTrue (marks ends (e + 1)) → j < room → has_link consequents e j
          ≡ is_match (sat value n) s e j
      from_end e j below marked inside =
          let here : IsTrue (marks obligations e) =
          obliged.each e (omega arith)
          ∙ and_from (nat_le (e + 1) n) (marks ends (e + 1)) (le-leb (e + 1) n (omega arith)) marked in
          rel.each e j here (omega (arith, obliged.long))

      failed_at : (e : ℕ) → e < n → (b : Bool) → marks ends (e + 1) ≡ b
          → (b && not (some_in e room (has_link consequents e))) ≡ (b && not (is_possible value s n e))
      failed_at e below false is = refl
      failed_at e below true is =
          ap (λ p. true && not p)
          (some_in-same e room (has_link consequents e) (λ j. is_match (sat value n) s e j)
          (λ j from inside. from_end e j below is inside)
          ∙ far_enough s e e room (omega arith))

      -- whether the antecedent ends there, with an obligation that can't be kept
      pub broken_here : (e : ℕ) → e < n
          → (marks ends (e + 1) && not (some_in e room (has_link consequents e)))
          ≡ (is_leading (sat value n) r 0 (e + 1) && not (is_possible value s n e))
      broken_here e below =
          failed_at e below (marks ends (e + 1)) refl
          ∙ ap (λ b. b && not (is_possible value s n e)) (at (e + 1) (omega arith))

      pub failed_law : some_in 0 n (λ e. marks ends (e + 1) && not (some_in e room (has_link consequents e)))
          ≡ is_failed value r s n 0
      failed_law =
          some_in-same 0 n (λ e. marks ends (e + 1) && not (some_in e room (has_link consequents e)))
          (λ e. is_leading (sat value n) r 0 (e + 1) && not (is_possible value s n e))
          (λ e from below. broken_here e below)

      kept_at : (e : ℕ) → e < n → (b : Bool) → marks ends (e + 1) ≡ b
          → (not b || some_in e (n + 1) (has_link consequents e)) ≡ (not b || is_kept value s n e)
      kept_at e below false is = refl
      kept_at e below true is =
          ap (λ p. not true || p)
          (some_in-same e (n + 1) (has_link consequents e) (λ j. is_match (sat value n) s e j)
          (λ j from inside. from_end e j below is (omega arith)))

      pub kept_law : each_in 0 n (λ e. not (marks ends (e + 1)) || some_in e (n + 1) (has_link consequents e))
          ≡ all_kept value r s n 0
      kept_law =
          each_in_same 0 n (λ e. not (marks ends (e + 1)) || some_in e (n + 1) (has_link consequents e))
          (λ e. not (is_leading (sat value n) r 0 (e + 1)) || is_kept value s n e)
          (λ e from below. kept_at e below (marks ends (e + 1)) refl
          ∙ ap (λ b. not b || is_kept value s n e) (at (e + 1) (omega arith)))

-- one tick more
pub seen_none : (value : Boolean → ℕ → Bool) (first : ℕ) → HasSeen value first []
seen_none value first = record { each = λ b k below. absurd (omega arith) }

pub seen_more : (all : List Expr) (places : List ℕ) (t : Samples) (first tick : ℕ) (values new : List (List Bool))
    (row : List Bool) → HasSeen (value_in all places t) first values → new ≡ values ++ row ∷ []
    → tick ≡ first + length values
    → ((i : ℕ) → marks row i ≡ is_true_at t (expression_at all (slice_get places i)) tick)
    → HasSeen (value_in all places t) first new
seen_more all places t first tick values new row h pushed is each = record { each = by }
  where
    long : length new ≡ length values + 1
    long = ap (λ (l : List (List Bool)). length l) pushed ∙ length-append values (row ∷ [])

    by : (b : Boolean) (k : ℕ) → k < length new → seen_value new b k ≡ value_in all places t b (first + k)
    by One k below = refl
    by (Listed i) k below = elim (cases_lt k (length values)) [
      | inl lt ↦
          ap (λ (l : List (List Bool)). has_link l k i) pushed
          ∙ ap (λ (l : List Bool). marks l i) (get_or-append values (row ∷ []) [] k lt) ∙ h.each (Listed i) k lt
      | inr ge ↦
          let last : k ≡ length values = omega (arith, long) in
          let now : tick ≡ first + k = omega arith in
          ap (λ (l : List (List Bool)). has_link l k i) pushed
          ∙ ap (λ (l : List Bool). marks l i) (get_or_end values row [] k last) ∙ each i
          ∙ ap (λ n. is_true_at t (expression_at all (slice_get places i)) n) now
    ]

first_true_of-same : (i n : ℕ) (p q : ℕ → Bool) → ((k : ℕ) → i ≤ k → k < i + n → p k ≡ q k) → first_true_of i n p
    ≡ first_true_of i n q
first_true_of-same i zero p q same = refl
first_true_of-same i (suc n) p q same =
    ap (λ b. if b then Some i else first_true_of (i + 1) n p) (same i (omega arith) (omega arith))
    ∙ ap (λ o. if q i then Some i else o)
    (first_true_of-same (i + 1) n p q (λ k from below. same k (omega arith) (omega arith)))

pub first_true-same : (i e : ℕ) (p q : ℕ → Bool) → ((k : ℕ) → i ≤ k → k < e → p k ≡ q k)
    → first_true i e p ≡ first_true i e q
unfolding first_true
first_true-same i e p q same = first_true_of-same i (e - i) p q (λ k from below. same k from (omega arith))

-- what was seen of the disabling boolean
off_seen : (all : List Expr) (places : List ℕ) (t : Samples) (first : ℕ) (values : List (List Bool))
    (d : Option Boolean) → HasSeen (value_in all places t) first values → (k : ℕ) → first ≤ k
    → k < first + length values → off_at values d first k ≡ off_in all places t d k
off_seen all places t first values None h k from below = refl
off_seen all places t first values (Some b) h k from below =
    let e : first + (k - first) ≡ k = omega arith in
    h.each b (k - first) (omega arith) ∙ ap (λ n. value_in all places t b n) e

pub verdict_seen : (all : List Expr) (places : List ℕ) (t : Samples) (first end : ℕ) (values : List (List Bool))
    (d : Option Boolean) (found : Option (ℕ × Decision)) → HasSeen (value_in all places t) first values
    → first + length values ≡ seen_end end found
    → verdict_by (off_at values d first) first end found ≡ verdict_by (off_in all places t d) first end found
verdict_seen all places t first end values d None h long =
    ap (λ o. disabled_or o outcome.Open)
    (first_true-same first end (off_at values d first) (off_in all places t d)
    (λ k from below. off_seen all places t first values d h k from (omega (arith, long))))
verdict_seen all places t first end values d (Some (n, decision)) h long =
    ap (λ o. disabled_or o (decided_at decision (n - 1)))
    (first_true-same first n (off_at values d first) (off_in all places t d)
    (λ k from below. off_seen all places t first values d h k from (omega (arith, long))))

-- the tick at which it is found, or the ticks after it
pub found_here : (find : ℕ → Option Decision) (start below end : ℕ) (d : Decision) → below < end
    → first_in below end find ≡ first_in start end find → find below ≡ Some d
    → Some (below, d) ≡ first_in start end find
found_here find start below end d lt so_far is =
    sym (sym so_far ∙ first_in-step below end find lt ∙ ap (λ o. or_later below o (first_in (below + 1) end find)) is)

pub found_later : (find : ℕ → Option Decision) (start below end : ℕ) → below < end → first_in below end find
    ≡ first_in start end find → find below ≡ None → first_in (below + 1) end find ≡ first_in start end find
found_later find start below end lt so_far is =
    sym (first_in-step below end find lt ∙ ap (λ o. or_later below o (first_in (below + 1) end find)) is) ∙ so_far

-- what the values that were seen decide is decided by the tick after them
pub seen_decides : (value : Boolean → ℕ → Bool) (r : Antecedent Boolean) (s : Seq Boolean) (start below : ℕ)
    (values : List (List Bool))
    (o : Option Decision) → HasSeen value start values → start + length values ≡ below
    → o ≡ decision (seen_value values) r s (length values) 0 → decision value r s below start ≡ o
seen_decides value r s start below values o h e is =
    ap (λ n. decision value r s n start) (sym e) ∙ decision_seen Boolean value (seen_value values) start (length values)
    (λ b k under. h.each b k under) r s ∙ sym is
