-- How many verdicts of each kind were decided.
use Rattle.std.specs.Prelude.{ℕ, Bool, List, [], ◌∷◌, count_by}
use Rattle.signals.specs.declared.verdict.Verdict.{Verdict}
use Rattle.signals.specs.declared.verdict.Decided.{Decided}
use Rattle.report_lines.specs.Tallies.{is_holds, is_vacuous, is_fails, is_disabled}

-- how many are of a kind
abbrev pub count_of : (Verdict → Bool) → List Decided → ℕ
count_of is ds = count_by (λ d. is d.verdict) ds

-- how many hold, are vacuous, fail and are disabled
abbrev pub counts_of : List Decided → List ℕ
counts_of ds =
    count_of is_holds ds ∷ count_of is_vacuous ds ∷ count_of is_fails ds ∷ count_of is_disabled ds
    ∷ []
