-- What the lines in the making took in.
use Rattle.std.specs.Prelude.{◌≡◌, ℕ, ◌==◌, if◌then◌else◌, List, [], length, map, filter_map}
use Rattle.signals.specs.declared.verdict.Decided.{Decided}
use Rattle.report_lines.specs.Tallies.{tally_of}
use Rattle.machine_batches.specs.declared.batch.Batch.{Batch}
use Rattle.machine_batches.specs.Lines.{failure_of, attempts_of}
use Rattle.workers_core.specs.declared.growing_line.GrowingLine.{GrowingLine}

-- these attempts were taken in
pub record TookIn (line : GrowingLine) (attempts : List Decided) : Type 0 where
  pub counts : line.counts ≡ tally_of (map (λ d. d.verdict) attempts)
  pub fails : line.fails.items ≡ filter_map failure_of attempts
  pub many : attempts_of line.counts ≡ length attempts

-- what the batch has of a monitor
abbrev pub of_monitor : Batch → ℕ → List Decided
of_monitor b number = if b.monitor == number then b.decided.items else []
