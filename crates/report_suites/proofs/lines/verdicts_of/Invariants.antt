use Rattle.std.proofs.Common.{◌≡◌, ℕ, ◌<◌, length}
use Rattle.std.specs.Prelude.{slice_index_or}
use Rattle.signals.specs.declared.verdict.Verdict.TheVariants as outcome
use Rattle.assertions.specs.Verdicts.{IsVerdictOver}
use Rattle.report_suites.proofs.lines.verdicts_of.Given as goal

-- the verdicts so far
abbrev pub invariant-loop-tick : goal.invariant-loop-tick
invariant-loop-tick l = record {
  long : length l.verdicts.items ≡ l.tick;
  each : (k : ℕ) → k < l.tick
      → IsVerdictOver l.suite l.rows.signals l.assertion k
      (slice_index_or l.verdicts.items k outcome.Open);
}
