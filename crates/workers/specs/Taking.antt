-- What a round's batches count, in the lines.
use Rattle.std.specs.Prelude.{List, ◌++◌}
use Rattle.signals.specs.declared.verdict.Decided.{Decided}
use Rattle.workers_core.specs.declared.monitor.Monitor.{Monitor}
use Rattle.workers_core.specs.declared.growing_line.GrowingLine.{GrowingLine}
use Rattle.workers_core.specs.Taken.{TookIn}
use Rattle.workers_bench.specs.declared.numbered.Numbered.{Numbered}
use Rattle.workers.specs.declared.worker.Published.{Published}

-- the line took in these after what it had
abbrev pub Takes : GrowingLine → List Decided → GrowingLine → Type 0
Takes old ds new = (before : List Decided) → TookIn old before → TookIn new (before ++ ds)

abbrev pub monitor_of : Numbered → Monitor
monitor_of x = x.monitor.value

abbrev pub numbered_of : Published → Numbered
numbered_of p = p.monitor
