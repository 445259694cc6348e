use Rattle.std.proofs.Common.{take, drop}
use Rattle.types_names.specs.Views.{scope_of, columns_in}
use Rattle.types.specs.Signals.{DumpHasPaths}
use Rattle.types.specs.Suites.{AreSignals}
use Rattle.types.proofs.suite_signals.signals_of.Given as goal

abbrev pub invariant-loop-column : goal.invariant-loop-column
invariant-loop-column l = record {
  known : DumpHasPaths (scope_of l.scope) (drop l.column (columns_in l.columns));
  made : AreSignals (scope_of l.scope) (take l.column (columns_in l.columns)) l.signals.items;
}
