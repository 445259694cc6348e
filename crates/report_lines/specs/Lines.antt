-- What a report says, apart from where it lies in memory.
use Rattle.std.specs.Prelude.{ℕ, ◌-◌, ◌^◌, List, min, sum_by, string_bytes}
use Rattle.signals.specs.declared.verdict.Verdict.{Verdict}
use Rattle.report_lines.specs.declared.line.Counts.{Counts}
use Rattle.report_lines.specs.declared.line.Failure.{Failure}
use Rattle.report_lines.specs.declared.line.Line.{Line}
use Rattle.report_lines.specs.Tallies.{tally_of, failing_of}

-- what it says of one assertion
pub record LineData : Type 0 where
  pub name : List ℕ
  pub counts : Counts
  pub fails : List Failure

abbrev pub line : Line → LineData
line l = record { name = string_bytes l.name; counts = l.counts; fails = l.fails.items }

-- the line of an assertion with that name and these verdicts, one for each attempt, by start
abbrev pub line_data_of : List ℕ → List Verdict → LineData
line_data_of name verdicts =
    record { name = name; counts = tally_of verdicts; fails = failing_of verdicts }

-- what the whole report says
pub record ReportData : Type 0 where
  pub clocks : ℕ
  pub lines : List LineData
  pub total : Counts

-- a total, held at 2^64 - 1
abbrev pub held_count : ℕ → ℕ
held_count n = min n (2 ^ 64 - 1)

-- the sums of the lines' counts
abbrev pub total_of : List LineData → Counts
total_of ls = record {
  holds = held_count (sum_by (λ l. l.counts.holds) ls);
  vacuous = held_count (sum_by (λ l. l.counts.vacuous) ls);
  fails = held_count (sum_by (λ l. l.counts.fails) ls);
  disabled = held_count (sum_by (λ l. l.counts.disabled) ls);
  still_open = held_count (sum_by (λ l. l.counts.still_open) ls);
}

-- the report over so many clocks with these lines
abbrev pub report_of : ℕ → List LineData → ReportData
report_of clocks ls = record { clocks = clocks; lines = ls; total = total_of ls }
