use Rattle.std.proofs.Common.{◌≡◌, ◌+◌, length}
use Rattle.expressions.specs.Tables.{column}
use Rattle.expressions.specs.Counters.{counter_samples}
use Rattle.expressions.specs.Laws.{AgreeTo}
use Rattle.expressions.proofs.counting.count.Given as goal

abbrev pub invariant-loop-tick : goal.invariant-loop-tick
invariant-loop-tick l = record {
  signals : l.rows.signals ≡ l.fn.signals;
  long : length l.rows.counters ≡ l.tick + 1;
  counted : AgreeTo l.tick (record { signal_at = column l.fn.signals; counter_at = column l.rows.counters })
      (counter_samples (column l.fn.signals) l.all);
}
