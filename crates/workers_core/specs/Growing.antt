-- Counts that grow.
use Rattle.std.specs.Prelude.{ℕ, ◌+◌, if◌then◌else◌}
use Rattle.signals.specs.declared.verdict.Verdict.{Verdict}
use Rattle.report_lines.specs.declared.line.Counts.{Counts}
use Rattle.report_lines.specs.Tallies.{is_holds, is_vacuous, is_fails, is_disabled, is_open}

-- so many more verdicts of that kind
abbrev pub more_of : Counts → Verdict → ℕ → Counts
more_of c v n = record {
  holds = c.holds + (if is_holds v then n else 0);
  vacuous = c.vacuous + (if is_vacuous v then n else 0);
  fails = c.fails + (if is_fails v then n else 0);
  disabled = c.disabled + (if is_disabled v then n else 0);
  still_open = c.still_open + (if is_open v then n else 0);
}
