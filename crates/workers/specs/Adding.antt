-- What workers added to the tally, kind by kind: 0 those that hold, 1 that are vacuous, 2 that
-- fail, and after that those that are disabled.
use Rattle.std.specs.Prelude.{◌≡◌, ℕ, zero, suc, ◌+◌, Bool, List}
use Rattle.signals.specs.declared.verdict.Verdict.{Verdict}
use Rattle.report_lines.specs.Tallies.{is_holds, is_vacuous, is_fails, is_disabled}
use Rattle.verdicts.specs.declared.tally.Share.{Share}
use Rattle.workers_bench.specs.Hands.{total}
use Rattle.workers.specs.declared.crew.Task.{Task}
use Rattle.workers.specs.declared.round.Member.{Member}
use Rattle.workers.specs.declared.worker.Published.{Published}
use Rattle.workers.specs.declared.worker.Worked.{Worked}
use Rattle.workers.specs.Works.{published_count}

abbrev pub is_of_kind : ℕ → Verdict → Bool
is_of_kind zero = is_holds
is_of_kind (suc zero) = is_vacuous
is_of_kind (suc (suc zero)) = is_fails
is_of_kind (suc (suc (suc k))) = is_disabled

module _ {L : Type 0} where
  abbrev pub amount_of : ℕ → Share L → ℕ
  amount_of zero s = s.holds.amount
  amount_of (suc zero) s = s.vacuous.amount
  amount_of (suc (suc zero)) s = s.fails.amount
  amount_of (suc (suc (suc k))) s = s.disabled.amount

  -- what all these workers added
  abbrev pub added_by : ℕ → List (Member L) → ℕ
  added_by k ms = total (λ (m : Member L). amount_of k m.share) ms

  abbrev pub added_by_tasks : ℕ → List (Task L) → ℕ
  added_by_tasks k ts = total (λ (t : Task L). amount_of k t.share) ts

  abbrev pub added_by_worked : ℕ → List (Worked L) → ℕ
  added_by_worked k ws = total (λ (w : Worked L). amount_of k w.share) ws

  -- how many of a kind they published
  abbrev pub kind_counted : ℕ → List (Worked L) → ℕ
  kind_counted k ws = total (λ (w : Worked L). published_count (is_of_kind k) w.published.items) ws

  -- the workers added these batches
  abbrev pub HaveAdded : List (Member L) → List (Member L) → List Published → Type 0
  HaveAdded old new ps = (k : ℕ) → added_by k new
      ≡ added_by k old + published_count (is_of_kind k) ps
