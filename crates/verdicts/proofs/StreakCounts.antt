-- How many verdicts of each kind streaks have.
use Rattle.std.proofs.Common.{
  ◌≡◌,
  ◌+◌,
  ◌<◌,
  ◌≤◌,
  ℕ,
  List,
  [],
  ◌∷◌,
  ◌++◌,
  Bool,
  cond,
  length,
  get_or,
  take,
  drop,
  sym,
  ap,
  ◌∙◌,
  arith,
}
use Rattle.std.proofs.lemmas.Grind.{flat_map-append}
use Rattle.std.proofs.lemmas.List.{take-append-drop}
use Rattle.std.proofs.lemmas.List.Sums.{sum_by-append}
use Rattle.signals.specs.declared.verdict.Verdict.{Verdict}
use Rattle.signals.specs.declared.verdict.Decided.{Decided}
use Rattle.report_lines.specs.Tallies.{is_holds, is_vacuous, is_fails, is_disabled}
use Rattle.machine_batches.specs.declared.streak.Streak.{Streak}
use Rattle.machine_batches.specs.Streaks.{streak_attempts, attempts_in_all}
use Rattle.machine_batches.proofs.StreakLaws.{streak-more, streak-count, IsKind}
use Rattle.machine_batches.proofs.StreakLaws.{kind-holds, kind-vacuous, kind-fails, kind-disabled}
use Rattle.verdicts.specs.Counts.{count_of, counts_of}

-- so many verdicts of one kind
abbrev pub counts_alike : Verdict → ℕ → List ℕ
counts_alike v n =
    cond (is_holds v) n 0 ∷ cond (is_vacuous v) n 0 ∷ cond (is_fails v) n 0
    ∷ cond (is_disabled v) n 0 ∷ []

four : (a b c d e f g h : ℕ) → a ≡ e → b ≡ f → c ≡ g → d ≡ h →
    ◌≡◌ {A = List ℕ} (a ∷ b ∷ c ∷ d ∷ []) (e ∷ f ∷ g ∷ h ∷ [])
four a b c d e f g h i j k l = cc

pub streak-counts : (s : Streak) →
    counts_alike s.first.verdict s.count ≡ counts_of (streak_attempts s)
streak-counts s =
    let holds = streak-count is_holds kind-holds s in
    let vacuous = streak-count is_vacuous kind-vacuous s in
    let fails = streak-count is_fails kind-fails s in
    let disabled = streak-count is_disabled kind-disabled s in
    four _ _ _ _ _ _ _ _ (sym holds) (sym vacuous) (sym fails) (sym disabled)

-- one streak more
pub counts-more : (is : Verdict → Bool) (xs : List Streak) (i : ℕ) (s : Streak) → i < length xs →
    s ≡ get_or xs i s →
    count_of is (attempts_in_all (take (i + 1) xs))
    ≡ count_of is (attempts_in_all (take i xs)) + count_of is (streak_attempts s)
counts-more is xs i s below same =
    ap (count_of is) (streak-more xs i s below same)
    ∙ sum_by-append _ (attempts_in_all (take i xs)) (streak_attempts s)

-- the first streaks have no more than all
pub counts-few : (is : Verdict → Bool) (xs : List Streak) (i : ℕ) →
    count_of is (attempts_in_all (take i xs)) ≤ count_of is (attempts_in_all xs)
counts-few is xs i =
    let split : count_of is (attempts_in_all xs)
    ≡ count_of is (attempts_in_all (take i xs)) + count_of is (attempts_in_all (drop i xs)) =
    ap (λ (zs : List Streak). count_of is (attempts_in_all zs)) (sym (take-append-drop i xs))
    ∙ ap (count_of is) (flat_map-append streak_attempts (take i xs) (drop i xs))
    ∙ sum_by-append _ (attempts_in_all (take i xs)) (attempts_in_all (drop i xs)) in
    omega (arith, split)
