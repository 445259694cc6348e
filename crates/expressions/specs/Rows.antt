-- What rows hold.
use Rattle.std.specs.Prelude.{List, length}
use Rattle.expressions.specs.declared.counter.Counter.{Counter}
use Rattle.expressions.specs.declared.rows.Rows.{Rows}
use Rattle.expressions.specs.Terms.{Samples}
use Rattle.expressions.specs.Tables.{column}
use Rattle.expressions.specs.Counters.{counter_samples}
use Rattle.expressions.specs.Laws.{AgreeTo}

-- the signals and the counters of the rows, by place and tick
abbrev pub samples_of : Rows → Samples
samples_of t = record { signal_at = column t.signals; counter_at = column t.counters }

-- The rows have what these counters count over their signals, up to the tick after the last row.
abbrev pub HasCounts : List Counter → Rows → Type 0
HasCounts counters t =
    AgreeTo (length t.signals) (samples_of t) (counter_samples (column t.signals) counters)
