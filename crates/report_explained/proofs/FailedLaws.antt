-- From the lines of a report to attempts that failed by the definition.
use Rattle.std.proofs.Common.{◌≡◌, ◌+◌, ◌<◌, ℕ, zero, suc, Bool, true, false, List, [], ◌∷◌, Some, length}
use Rattle.std.proofs.Common.{map, take, refl, sym, ap, subst, arith}
use Rattle.std.specs.Prelude.{slice_get, slice_index_or, filter, if◌then◌else◌, string_bytes}
use Rattle.std.specs.List.{AllByRecursion, AllZip}
use Rattle.std.proofs.lemmas.Bool.{eqb-true}
use Rattle.std.proofs.lemmas.List.{length-map}
use Rattle.std.proofs.lemmas.Option.{slice_get_within}
use Rattle.std.proofs.lemmas.Slice.Zip.{AllZip-long}
use Rattle.signals.specs.declared.verdict.Verdict.{Verdict}
use Rattle.signals.specs.declared.verdict.Verdict.TheVariants as outcome
use Rattle.assertions.specs.declared.assertion.Assertion.{Assertion}
use Rattle.assertions.specs.declared.suite.Suite.{Suite}
use Rattle.assertions.specs.Attempts.{Fails}
use Rattle.assertions.specs.Shapes.{shape}
use Rattle.assertions.specs.Verdicts.{antecedent_of, IsVerdictOver}
use Rattle.assertions.proofs.AgreeLaws.{same_verdict_on}
use Rattle.expressions.specs.declared.rows.Rows.{Rows}
use Rattle.expressions.specs.Counters.{counter_samples}
use Rattle.expressions.specs.Laws.{AgreeTo}
use Rattle.expressions.specs.Rows.{samples_of, HasCounts}
use Rattle.expressions.specs.Tables.{column}
use Rattle.expressions.specs.Terms.{Samples}
use Rattle.judging.specs.Courses.{value_over}
use Rattle.report_suites.specs.Judged.{AreVerdictsOver, IsJudgedLine, AreLinesOver}
use Rattle.report_lines.specs.declared.line.Failure.{Failure}
use Rattle.report_lines.specs.declared.line.Line.{Line}
use Rattle.report_lines.specs.Lines.{LineData, line}
use Rattle.report_lines.specs.Tallies.{fails_at, failing_at, failing_in, failing_of, end_of}
use Rattle.report_explained.specs.declared.selection.Wanted.{Wanted}
use Rattle.report_explained.specs.Chosen.{is_named, begins_at, choice_at, chosen_in, chosen_from}
use Rattle.report_explained.specs.Failed.{HasFailed, IsOfFailed}
use Rattle.report_explained.specs.Explained.{IsExplained}
use Rattle.report_explained.specs.Told.{HasLine}
use Rattle.report_explained.specs.declared.explanation.Explanation.{Explanation}
use Rattle.report_explained.proofs.AllLaws.{all_append, all_take, all_filter, all_map, all_so}

-- a failure is that of one of the verdicts, of which the first is that of the attempt at start
record IsListed (start : ℕ) (vs : List Verdict) (f : Failure) : Type 0 where
  place : ℕ
  below : place < length vs
  at : f.start ≡ start + place
  is : slice_index_or vs place outcome.Open ≡ outcome.Fails f.clock

later : (start : ℕ) (v : Verdict) (vs : List Verdict) (f : Failure) → IsListed (suc start) vs f
    → IsListed start (v ∷ vs) f
later start v vs f h = record {
  place = suc h.place;
  below = omega (arith, h.below);
  at = omega (arith, h.at);
  is = h.is;
}

-- a verdict that fails at a clock
is_failure : (clock : ℕ) (v : Verdict) → fails_at clock v ≡ true → v ≡ outcome.Fails clock
is_failure clock (outcome.Holds t) e = absurd cc
is_failure clock (outcome.Vacuous t) e = absurd cc
is_failure clock (outcome.Fails t) e = ap outcome.Fails (eqb-true t clock e)
is_failure clock (outcome.Disabled t) e = absurd cc
is_failure clock outcome.Open e = absurd cc

each_at : (clock start : ℕ) (vs : List Verdict) → AllByRecursion (IsListed start vs) (failing_at clock start vs)
unfolding failing_at
each_at clock start [] = tt
each_at clock start (v ∷ vs) =
    go (fails_at clock v) refl
    (all_so (IsListed (suc start) vs) (IsListed start (v ∷ vs)) (later start v vs) (failing_at clock (suc start) vs)
    (each_at clock (suc start) vs))
  where
    go : (b : Bool) → fails_at clock v ≡ b → AllByRecursion (IsListed start (v ∷ vs)) (failing_at clock (suc start) vs)
        → AllByRecursion (IsListed start (v ∷ vs))
        (if b then record { start = start; clock = clock } ∷ failing_at clock (suc start) vs else failing_at clock
        (suc start) vs)
    go true e rest =
        (record { place = 0; below = omega arith; at = omega arith; is = is_failure clock v e }, rest)
    go false e rest = rest

each_in : (first count : ℕ) (vs : List Verdict) → AllByRecursion (IsListed 0 vs) (failing_in first count vs)
unfolding failing_in
each_in first zero vs = tt
each_in first (suc count) vs =
    all_append (IsListed 0 vs) (failing_at first 0 vs) (failing_in (suc first) count vs) (each_at first 0 vs)
    (each_in (suc first) count vs)

turned : (k : ℕ) (t u : Samples) → AgreeTo k t u → AgreeTo k u t
turned k t u h = record {
  signals = λ place j le. sym (h.signals place j le);
  counters = λ place j le. sym (h.counters place j le);
}

-- a failure among the verdicts on an assertion
has_failed : (suite : Suite) (rows : Rows) (a : Assertion) (vs : List Verdict) → HasCounts suite.counters.items rows
    → AreVerdictsOver suite rows.signals a vs → (f : Failure) → IsListed 0 vs f → HasFailed suite rows a f
has_failed suite rows a vs counts are f listed =
    let ticks = length rows.signals in
    let below : listed.place < ticks = omega (arith, listed.below, are.long) in
    let same : listed.place ≡ f.start = omega (arith, listed.at) in
    let counted = counter_samples (column rows.signals) suite.counters.items in
    let over =
    subst (λ v. IsVerdictOver suite rows.signals a listed.place v) listed.is (are.each listed.place below) in
    let first =
    (same_verdict_on suite.booleans.items counted (samples_of rows) ticks a listed.place (outcome.Fails f.clock)
    (turned ticks (samples_of rows) counted counts) over).0 in
    let above : listed.place < f.clock + 1 = first.above in
    record {
      order = omega (arith, above, same);
      seen = omega (arith, first.within);
      fails =
          subst (λ c. Fails (value_over suite rows a) (antecedent_of a) (shape a.consequent) (f.clock + 1) c) same
          first.decided;
    }

-- those of a line that are asked for
each_in_line : (suite : Suite) (rows : Rows) (w : Wanted) (place : ℕ) (a : Assertion) (l : Line)
    → HasCounts suite.counters.items rows → slice_get suite.assertions.items place ≡ Some a
    → IsJudgedLine suite rows.signals a (line l) → AllByRecursion (IsOfFailed suite rows) (chosen_in w place l)
each_in_line suite rows w place a l counts there judged = go (is_named w (string_bytes l.name))
  where
    fails : List Failure
    fails = l.fails.items

    same : fails ≡ failing_of judged.verdicts
    same = ap (λ (d : LineData). d.fails) judged.is

    each : AllByRecursion (HasFailed suite rows a) fails
    each =
        subst (AllByRecursion (HasFailed suite rows a)) (sym same)
        (all_so (IsListed 0 judged.verdicts) (HasFailed suite rows a)
        (has_failed suite rows a judged.verdicts counts judged.judged) (failing_of judged.verdicts)
        (each_in 0 (end_of judged.verdicts) judged.verdicts))

    asked : List Failure
    asked = take w.most (filter (begins_at w.start) fails)

    go : (b : Bool) → AllByRecursion (IsOfFailed suite rows) (if b then map (choice_at place) asked else [])
    go true =
        all_map (IsOfFailed suite rows) (choice_at place) asked
        (all_so (HasFailed suite rows a) (λ f. IsOfFailed suite rows (choice_at place f))
        (λ f failed. record { assertion = a; is_there = there; failed = failed }) asked
        (all_take (HasFailed suite rows a) w.most (filter (begins_at w.start) fails)
        (all_filter (HasFailed suite rows a) (begins_at w.start) fails each)))
    go false = tt

-- those of all lines, of which the first is that of the assertion at a place
pub each_chosen : (suite : Suite) (rows : Rows) (w : Wanted) → HasCounts suite.counters.items rows → (place : ℕ)
    (more : List Assertion) (ls : List Line)
    → ((k : ℕ) (a : Assertion) → slice_get more k ≡ Some a → slice_get suite.assertions.items (place + k) ≡ Some a)
    → AllZip (IsJudgedLine suite rows.signals) more (map line ls)
    → AllByRecursion (IsOfFailed suite rows) (chosen_from w place ls)
unfolding chosen_from
each_chosen suite rows w counts place [] [] there h = tt
each_chosen suite rows w counts place [] (l ∷ ls) there h = elim h [ ]
each_chosen suite rows w counts place (a ∷ more) [] there h = elim h [ ]
each_chosen suite rows w counts place (a ∷ more) (l ∷ ls) there h =
    let none : place + 0 ≡ place = omega arith in
    let here = subst (λ p. slice_get suite.assertions.items p ≡ Some a) none (there 0 a refl) in
    all_append (IsOfFailed suite rows) (chosen_in w place l) (chosen_from w (suc place) ls)
    (each_in_line suite rows w place a l counts here h.0)
    (each_chosen suite rows w counts (suc place) more ls
    (λ k b at. let e : place + suc k ≡ suc place + k = omega arith in
    subst (λ p. slice_get suite.assertions.items p ≡ Some b) e (there (suc k) b at)) h.1)

-- each explained attempt is of an assertion that has a line
pub each_line : (suite : Suite) (counters : List (List ℕ)) (rows : Rows) (ls : List Line) (es : List Explanation)
    → AreLinesOver suite rows.signals suite.assertions.items (map line ls)
    → AllByRecursion (IsExplained suite counters rows) es → AllByRecursion (HasLine ls) es
each_line suite counters rows ls es over each =
    let all = suite.assertions.items in
    let long : length (map line ls) ≡ length all =
    AllZip-long (IsJudgedLine suite rows.signals) all (map line ls) over in
    let same : length (map line ls) ≡ length ls = length-map ls line in
    all_so (IsExplained suite counters rows) (HasLine ls)
    (λ e x. let within : e.place < length all = slice_get_within all e.place x.assertion x.is_there in
    omega (arith, long, same, within)) es each
