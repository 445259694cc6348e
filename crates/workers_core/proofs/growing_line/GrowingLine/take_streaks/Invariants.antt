use Rattle.std.proofs.Common.{◌≡◌, ◌+◌, ◌++◌, List, take, length}
use Rattle.signals.specs.declared.verdict.Decided.{Decided}
use Rattle.machine_batches.specs.Lines.{attempts_of}
use Rattle.machine_batches.specs.Streaks.{attempts_in_all}
use Rattle.workers_core.specs.Taken.{TookIn}
use Rattle.workers_core.proofs.growing_line.GrowingLine.take_streaks.Given as goal

-- the streaks so far are taken in
abbrev pub invariant-loop-streak : goal.invariant-loop-streak
invariant-loop-streak l = record {
  count : attempts_of l.self.counts
      ≡ attempts_of l.fn.self.counts
      + length (attempts_in_all (take l.streak-index l.streak-items));
  took : (before : List Decided) → TookIn l.fn.self before
      → TookIn l.self (before ++ attempts_in_all (take l.streak-index l.streak-items));
}
