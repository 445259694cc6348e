-- Streaks that are taken into a line.
use Rattle.std.proofs.Common.{◌≡◌, ◌+◌, ◌^◌, ◌<◌, ◌≤◌, ℕ, zero, suc, List, [], ◌∷◌, ◌++◌, Bool, false, cond}
use Rattle.std.proofs.Common.{length, take, drop, map, filter_map, refl, sym, ap, ◌∙◌, arith}
use Rattle.std.proofs.Common.{append_assoc, length-append}
use Rattle.std.specs.List.{range_with_len, count_by}
use Rattle.std.proofs.lemmas.Grind.{flat_map-append}
use Rattle.std.proofs.lemmas.List.{take-append-drop}
use Rattle.std.proofs.lemmas.List.Elements.{filter_map-append}
use Rattle.std.proofs.lemmas.List.FromFn.{map-range_with_len_more}
use Rattle.std.proofs.lemmas.List.Sums.{sum_by-append, sum_by-cons}
use Rattle.std.proofs.Math.Nat.{min-eq_left}
use Rattle.signals.specs.declared.verdict.Verdict.{Verdict}
use Rattle.signals.specs.declared.verdict.Verdict.TheVariants as outcome
use Rattle.signals.specs.declared.verdict.Decided.{Decided}
use Rattle.report_lines.specs.declared.line.Counts.{Counts}
use Rattle.report_lines.specs.declared.line.Failure.{Failure}
use Rattle.report_lines.specs.Lines.{held_count}
use Rattle.report_lines.specs.Totals.{counts_sum}
use Rattle.report_lines.specs.Tallies.{tally_of, is_holds, is_vacuous, is_fails, is_disabled, is_open}
use Rattle.machine_batches.specs.declared.streak.Streak.{Streak}
use Rattle.machine_batches.specs.Ages.{nth}
use Rattle.machine_batches.specs.Lines.{failure_of, attempts_of}
use Rattle.machine_batches.specs.Streaks.{streak_attempts, attempts_in_all}
use Rattle.machine_batches.proofs.StreakLaws.{streak-count, IsKind}
use Rattle.machine_batches.proofs.StreakLaws.{kind-holds, kind-vacuous, kind-fails, kind-disabled}
use Rattle.machine_batches.proofs.StreakLaws.{kind-open}
use Rattle.workers_core.specs.Growing.{more_of}

verdicts-counted : (is : Verdict → Bool) (ds : List Decided) →
    count_by is (map (λ (d : Decided). d.verdict) ds)
    ≡ count_by (λ (d : Decided). is d.verdict) ds
verdicts-counted is [] = refl
verdicts-counted is (d ∷ ds) =
    let rest = verdicts-counted is ds in
    let one = sum_by-cons (λ v. cond (is v) 1 0) d.verdict (map (λ (d : Decided). d.verdict) ds) in
    let other = sum_by-cons (λ (d : Decided). cond (is d.verdict) 1 0) d ds in
    omega (arith, rest, one, other)

-- how many are of a kind, with a streak more
with-streak : (is : Verdict → Bool) → IsKind is → (before : List Decided) (s : Streak) →
    count_by is (map (λ (d : Decided). d.verdict) (before ++ streak_attempts s))
    ≡ count_by is (map (λ (d : Decided). d.verdict) before)
    + cond (is s.first.verdict) s.count 0
with-streak is kind before s =
    let all = verdicts-counted is (before ++ streak_attempts s) in
    let split = sum_by-append (λ (d : Decided). cond (is d.verdict) 1 0) before (streak_attempts s) in
    let first = verdicts-counted is before in
    let more = streak-count is kind s in
    omega (arith, all, split, first, more)

same-counts : (a b c d e f g h i j : ℕ) → a ≡ f → b ≡ g → c ≡ h → d ≡ i → e ≡ j →
    ◌≡◌ {A = Counts}
    (record { holds = a; vacuous = b; fails = c; disabled = d; still_open = e })
    (record { holds = f; vacuous = g; fails = h; disabled = i; still_open = j })
same-counts a b c d e f g h i j k l m n o = cc

-- taking in a streak is taking in its attempts
pub more-tally : (before : List Decided) (s : Streak) (c : Counts) →
    c ≡ tally_of (map (λ (d : Decided). d.verdict) before) →
    more_of c s.first.verdict s.count
    ≡ tally_of (map (λ (d : Decided). d.verdict) (before ++ streak_attempts s))
more-tally before s c is =
    let holds = with-streak is_holds kind-holds before s in
    let vacuous = with-streak is_vacuous kind-vacuous before s in
    let fails = with-streak is_fails kind-fails before s in
    let disabled = with-streak is_disabled kind-disabled before s in
    let still_open = with-streak is_open kind-open before s in
    ap (λ (k : Counts). more_of k s.first.verdict s.count) is
    ∙ same-counts _ _ _ _ _ _ _ _ _ _ (sym holds) (sym vacuous) (sym fails) (sym disabled)
    (sym still_open)

both-kinds : (is : Verdict → Bool) (a b : List Decided) →
    count_by is (map (λ (d : Decided). d.verdict) (a ++ b))
    ≡ count_by is (map (λ (d : Decided). d.verdict) a)
    + count_by is (map (λ (d : Decided). d.verdict) b)
both-kinds is a b =
    let all = verdicts-counted is (a ++ b) in
    let split = sum_by-append (λ (d : Decided). cond (is d.verdict) 1 0) a b in
    let first = verdicts-counted is a in
    let second = verdicts-counted is b in
    omega (arith, all, split, first, second)

-- what two count
abbrev pub both_of : Counts → Counts → Counts
both_of c d = record {
  holds = c.holds + d.holds;
  vacuous = c.vacuous + d.vacuous;
  fails = c.fails + d.fails;
  disabled = c.disabled + d.disabled;
  still_open = c.still_open + d.still_open;
}

held-below : (n : ℕ) → n < 2 ^ 64 → held_count n ≡ n
held-below n below = min-eq_left (omega arith)

-- no sum is held back
pub sum-below : (c d : Counts) → attempts_of c + attempts_of d < 2 ^ 64 → counts_sum c d ≡ both_of c d
sum-below c d below =
    same-counts _ _ _ _ _ _ _ _ _ _ (held-below (c.holds + d.holds) (omega arith))
    (held-below (c.vacuous + d.vacuous) (omega arith)) (held-below (c.fails + d.fails) (omega arith))
    (held-below (c.disabled + d.disabled) (omega arith))
    (held-below (c.still_open + d.still_open) (omega arith))

pub both-attempts : (c d : Counts) → attempts_of (both_of c d) ≡ attempts_of c + attempts_of d
both-attempts c d = omega arith

-- what two lists count is what they count together
pub both-tally : (a b : List Decided) (c d : Counts) →
    c ≡ tally_of (map (λ (x : Decided). x.verdict) a) →
    d ≡ tally_of (map (λ (x : Decided). x.verdict) b) →
    both_of c d ≡ tally_of (map (λ (x : Decided). x.verdict) (a ++ b))
both-tally a b c d first second =
    ap (λ (k : Counts). both_of k d) first
    ∙ ap (λ (k : Counts). both_of (tally_of (map (λ (x : Decided). x.verdict) a)) k) second
    ∙ same-counts _ _ _ _ _ _ _ _ _ _ (sym (both-kinds is_holds a b))
    (sym (both-kinds is_vacuous a b)) (sym (both-kinds is_fails a b))
    (sym (both-kinds is_disabled a b)) (sym (both-kinds is_open a b))

-- where the first did not fail, none did
pub none-failed : (start : ℕ) (v : Verdict) (a n : ℕ) → is_fails v ≡ false →
    filter_map failure_of (map (nth (record { start = start; verdict = v })) (range_with_len a n))
    ≡ []
none-failed start v a zero h = refl
none-failed start (outcome.Holds t) a (suc n) h =
    none-failed start (outcome.Holds t) (a + 1) n h
none-failed start (outcome.Vacuous t) a (suc n) h =
    none-failed start (outcome.Vacuous t) (a + 1) n h
none-failed start (outcome.Fails t) a (suc n) h = absurd cc
none-failed start (outcome.Disabled t) a (suc n) h =
    none-failed start (outcome.Disabled t) (a + 1) n h
none-failed start outcome.Open a (suc n) h = none-failed start outcome.Open (a + 1) n h

-- one attempt more
pub failures-more : (d : Decided) (n : ℕ) (before old new : List Failure) →
    old ≡ before ++ filter_map failure_of (map (nth d) (range_with_len 0 n)) →
    new ≡ old ++ filter_map failure_of (nth d n ∷ []) →
    new ≡ before ++ filter_map failure_of (map (nth d) (range_with_len 0 (n + 1)))
failures-more d n before old new was is =
    let so_far = map (nth d) (range_with_len 0 n) in
    let one = nth d n ∷ [] in
    is ∙ ap (λ (fs : List Failure). fs ++ filter_map failure_of one) was
    ∙ append_assoc before (filter_map failure_of so_far) (filter_map failure_of one)
    ∙ ap (λ (fs : List Failure). before ++ fs)
    (sym (ap (filter_map failure_of) (map-range_with_len_more (nth d) 0 n n (omega arith))
    ∙ filter_map-append failure_of so_far one))

-- the first streaks have no more attempts than all
pub streaks-few : (xs : List Streak) (i : ℕ) →
    length (attempts_in_all (take i xs)) ≤ length (attempts_in_all xs)
streaks-few xs i =
    let split : length (attempts_in_all xs)
    ≡ length (attempts_in_all (take i xs)) + length (attempts_in_all (drop i xs)) =
    ap (λ (zs : List Streak). length (attempts_in_all zs)) (sym (take-append-drop i xs))
    ∙ ap (λ (ds : List Decided). length ds)
    (flat_map-append streak_attempts (take i xs) (drop i xs))
    ∙ length-append (attempts_in_all (take i xs)) (attempts_in_all (drop i xs)) in
    omega (arith, split)
