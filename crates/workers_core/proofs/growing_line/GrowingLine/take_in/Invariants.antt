use Rattle.std.proofs.Common.{◌≡◌, ◌+◌, ◌++◌, List, take}
use Rattle.signals.specs.declared.verdict.Decided.{Decided}
use Rattle.machine_batches.specs.Lines.{attempts_of}
use Rattle.workers_core.specs.Taken.{TookIn}
use Rattle.workers_core.proofs.growing_line.GrowingLine.take_in.Given as goal

-- the attempts so far are taken in
abbrev pub invariant-loop-one : goal.invariant-loop-one
invariant-loop-one l = record {
  count : attempts_of l.self.counts ≡ attempts_of l.fn.self.counts + l.one-index;
  took : (before : List Decided) → TookIn l.fn.self before
      → TookIn l.self (before ++ take l.one-index l.attempts);
}
