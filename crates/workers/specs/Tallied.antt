-- How many attempts of a kind lines have, and workers added: kind 0 are those that hold, 1 those
-- that are vacuous, 2 those that fail, and each other number those that are disabled.
use Rattle.std.specs.Prelude.{◌≡◌, ℕ, zero, suc, List, [], ◌∷◌}
use Rattle.std.specs.List.{sum_by}
use Rattle.report_lines.specs.declared.line.Counts.{Counts}
use Rattle.report_lines.specs.declared.line.Line.{Line}
use Rattle.workers_core.specs.declared.growing_line.GrowingLine.{GrowingLine}
use Rattle.verdicts.specs.declared.tally.Share.{Share}
use Rattle.verdicts.specs.Shares.{each_capped}
use Rattle.workers.specs.declared.round.Member.{Member}
use Rattle.workers.specs.Adding.{amount_of, added_by}

abbrev pub count_in : ℕ → Counts → ℕ
count_in zero c = c.holds
count_in (suc zero) c = c.vacuous
count_in (suc (suc zero)) c = c.fails
count_in (suc (suc (suc k))) c = c.disabled

-- what lines in the making took in
abbrev pub told_by : ℕ → List GrowingLine → ℕ
told_by k ls = sum_by (λ (l : GrowingLine). count_in k l.counts) ls

-- what lines say
abbrev pub lines_said : ℕ → List Line → ℕ
lines_said k ls = sum_by (λ (l : Line). count_in k l.counts) ls

-- the four numbers are those of the lines, each held at the largest number
abbrev pub AreTotals : List ℕ → List Line → Type 0
AreTotals totals ls =
    totals ≡ each_capped
    (lines_said 0 ls ∷ lines_said 1 ls ∷ lines_said 2 ls ∷ lines_said 3 ls ∷ [])

module _ {L : Type 0} where
  -- what all these shares have
  abbrev pub shared_by : ℕ → List (Share L) → ℕ
  shared_by k ss = sum_by (λ (s : Share L). amount_of k s) ss

  -- the workers added what the lines took in, kind by kind
  abbrev pub AreTallied : List (Member L) → List GrowingLine → Type 0
  AreTallied ms ls = (k : ℕ) → added_by k ms ≡ told_by k ls
