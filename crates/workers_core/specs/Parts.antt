-- The state that the core's parts stand for.
use Rattle.std.specs.Prelude.{◌≡◌, ◌<◌, ◌≤◌, ℕ, List, Some, length, map, slice_get}
use Rattle.vcd_reader.specs.Dump.{Contents}
use Rattle.cycle_window.specs.declared.window.Window.{Window}
use Rattle.cycle_window.specs.Held.{first_in, end_in, columns_in, size_in, IsOver}
use Rattle.signals.specs.declared.verdict.Decided.{Decided}
use Rattle.machine_batches.specs.declared.batch.Batch.{Batch}
use Rattle.machine_batches.specs.Batches.{batch_of}
use Rattle.workers_core.specs.declared.monitor.Monitor.{Monitor}
use Rattle.workers_core.specs.declared.worker.Worker.{Worker}
use Rattle.workers_core.specs.declared.core_parts.CoreParts.{CoreParts}
use Rattle.workers_core.specs.States.{CoreState, WorkerState, BatchState, Setting, published_by}
use Rattle.workers_core.specs.Standing.{monitor_state, seen, MonitorStands}
use Rattle.workers_core.specs.Opening.{monitor_part}

abbrev pub worker_state : Worker → WorkerState
worker_state w = record { hand = w.hand; done = w.done.items }

abbrev pub batch_state : Batch → BatchState
batch_state b = record {
  monitor = b.monitor;
  first = b.first;
  end = b.end;
  decided = b.decided.items;
}

abbrev pub core_state : CoreParts → CoreState
core_state f = record {
  first = first_in f.window;
  end = end_in f.window;
  monitors = map monitor_state f.monitors.items;
  waiting = f.waiting.items;
  workers = map worker_state f.workers.items;
  board = map batch_state f.board.items;
}

-- each monitor stands in the window
abbrev pub EachStands : Window → List Monitor → Type 0
EachStands w ms = (i : ℕ) (m : Monitor) → slice_get ms i ≡ Some m → MonitorStands w m

-- the batch is that of its monitor for its clocks
pub record IsRight (w : Window) (m : Monitor) (b : Batch) : Type 0 where
  pub order : b.first ≤ b.end
  pub inside : b.end ≤ end_in w
  pub decided : (c : Contents) → IsOver w c →
      b.decided.items ≡ batch_of m.machine.program (seen w c m) b.first b.end

abbrev pub EachIsRight : Window → List Monitor → List Batch → Type 0
EachIsRight w ms bs =
    (n : ℕ) (b : Batch) (m : Monitor) → slice_get bs n ≡ Some b →
    slice_get ms b.monitor ≡ Some m → IsRight w m b

-- each batch is of one of the monitors
abbrev pub EachIsKnown : List Monitor → List Batch → Type 0
EachIsKnown ms bs = (n : ℕ) (b : Batch) → slice_get bs n ≡ Some b → b.monitor < length ms

-- these are all that the monitor's program decides before the clock since which it keeps them
abbrev pub AreAllBefore : Window → Monitor → List Decided → Type 0
AreAllBefore w m decided =
    (c : Contents) → IsOver w c → decided ≡ batch_of m.machine.program (seen w c m) 0 m.since

-- each monitor has published all that it doesn't keep
abbrev pub EachIsTold : Window → List Monitor → List Batch → Type 0
EachIsTold w ms bs =
    (i : ℕ) (m : Monitor) → slice_get ms i ≡ Some m →
    AreAllBefore w m (published_by (map batch_state bs) i)

-- each monitor stands in the window, each batch is right, and none is missing
pub record AreSoundParts (f : CoreParts) : Type 0 where
  pub monitors : EachStands f.window f.monitors.items
  pub known : EachIsKnown f.monitors.items f.board.items
  pub batches : EachIsRight f.window f.monitors.items f.board.items
  pub told : EachIsTold f.window f.monitors.items f.board.items

-- What every step keeps: the window's columns and size, and each monitor's program and part of a
-- row.
pub record KeepsParts (old new : CoreParts) : Type 0 where
  pub columns : columns_in new.window ≡ columns_in old.window
  pub size : size_in new.window ≡ size_in old.window
  pub parts : map monitor_part new.monitors.items ≡ map monitor_part old.monitors.items

-- the trace's rows of each monitor's program are those that it sees
abbrev pub SeeAs : Setting → Window → Contents → List Monitor → Type 0
SeeAs g w c ms =
    (i : ℕ) (m : Monitor) → slice_get ms i ≡ Some m → g.rows m.machine.program ≡ seen w c m
