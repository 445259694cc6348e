-- Sums of counts.
use Rattle.std.specs.Prelude.{◌+◌}
use Rattle.report_lines.specs.declared.line.Counts.{Counts}
use Rattle.report_lines.specs.Lines.{held_count}

-- the sums of two counts, each held at 2^64 - 1
abbrev pub counts_sum : Counts → Counts → Counts
counts_sum a b = record {
  holds = held_count (a.holds + b.holds);
  vacuous = held_count (a.vacuous + b.vacuous);
  fails = held_count (a.fails + b.fails);
  disabled = held_count (a.disabled + b.disabled);
  still_open = held_count (a.still_open + b.still_open);
}
