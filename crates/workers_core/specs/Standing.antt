-- Where a monitor stands in a window.
use Rattle.std.specs.Prelude.{◌≡◌, ℕ, ◌+◌, ◌≤◌, List, [], ◌++◌, length, map, replicate, slice_range}
use Rattle.signals.specs.declared.verdict.Decided.{Decided}
use Rattle.bytecode_programs.specs.Values.{ProgramData}
use Rattle.vcd_reader.specs.Variables.{size_of}
use Rattle.vcd_reader.specs.Dump.{Contents}
use Rattle.cycle_window.specs.declared.window.Window.{Window}
use Rattle.cycle_window.specs.Ticks.{ticks_of, row_of}
use Rattle.cycle_window.specs.Held.{places_in, clock_in, columns_in, first_in, end_in, IsOver}
use Rattle.machine_checked.specs.Outcomes.{done}
use Rattle.machine_checked.specs.Machine.{clock}
use Rattle.machine_checked.specs.Runs.{run_from}
use Rattle.verifier.specs.Programs.{IsAccepted}
use Rattle.machine_batches.specs.Batches.{HasCome}
use Rattle.workers_core.specs.declared.monitor.Monitor.{Monitor}
use Rattle.workers_core.specs.States.{MonitorState}

abbrev pub monitor_state : Monitor → MonitorState
monitor_state m = record {
  program = m.machine.program;
  state = m.machine.state;
  since = m.since;
  decided = m.decided.items;
}

-- the monitor's part of a row of all signals
abbrev pub part : {X : Type 0} → Monitor → List X → List X
part m xs = slice_range xs m.from m.to

-- the variables that it samples
abbrev pub variables_in : Window → Monitor → List ℕ
variables_in w m = part m (places_in (columns_in w))

-- the trace's rows, as the monitor sees them
abbrev pub seen : Window → Contents → Monitor → List (List ℕ)
seen w c m = map (row_of c (variables_in w m)) (ticks_of c (clock_in (columns_in w)))

-- the values, before one step, of variables that have the widths of the program's signals
abbrev pub AreSampled : ProgramData → List ℕ → Type 0
AreSampled p row =
    ∥ ((c : Contents) × (vs : List ℕ) × (k : ℕ) × (row ≡ row_of c vs k)
    × (map (λ v. size_of c.variables v) vs ≡ map (λ s. s.width) p.signals)) ∥₁

-- what a monitor keeps all its life
pub record IsSame (old new : Monitor) : Type 0 where
  pub program : new.machine.program ≡ old.machine.program
  pub from : new.from ≡ old.from
  pub to : new.to ≡ old.to
  pub attempts : new.attempts ≡ old.attempts
  pub since : new.since ≡ old.since

-- The monitor has its part of the rows, stands in the window or at its end, and there in the
-- checked machine's state over the trace's first rows, with what was decided since a clock.
pub record MonitorStands (w : Window) (m : Monitor) : Type 0 where
  pub accepted : IsAccepted m.machine.program
  pub room : m.machine.program.header.limits.attempts ≤ 1024
  pub declared : m.machine.program.header.limits.attempts ≤ m.attempts
  pub parted : m.from ≤ m.to
  pub inside : m.to ≤ length (places_in (columns_in w))
  pub fits :
      ∥ ((c : Contents) × IsOver w c
      × (map (λ v. size_of c.variables v) (variables_in w m)
      ≡ map (λ s. s.width) m.machine.program.signals)) ∥₁
  pub lately : m.since ≤ m.machine.state.standing.now
  pub low : first_in w ≤ m.machine.state.standing.now
  pub high : m.machine.state.standing.now ≤ end_in w
  pub come : (c : Contents) → IsOver w c →
      HasCome m.machine.program (seen w c m) m.since m.machine.state.standing.now
      m.decided.items m.machine.state

-- The monitor has its part of the rows, and stands in the window or at its end, so many clocks
-- behind what the window counts: those before its first one.
pub record StandsBehind (before : ℕ) (w : Window) (m : Monitor) : Type 0 where
  pub accepted : IsAccepted m.machine.program
  pub room : m.machine.program.header.limits.attempts ≤ 1024
  pub declared : m.machine.program.header.limits.attempts ≤ m.attempts
  pub parted : m.from ≤ m.to
  pub inside : m.to ≤ length (places_in (columns_in w))
  pub fits :
      ∥ ((c : Contents) × IsOver w c
      × (map (λ v. size_of c.variables v) (variables_in w m)
      ≡ map (λ s. s.width) m.machine.program.signals)) ∥₁
  pub low : before + first_in w ≤ m.machine.state.standing.now
  pub high : m.machine.state.standing.now ≤ before + end_in w

-- one clock more, over this row
pub record IsOneMore (old : Monitor) (row : List ℕ) (new : Monitor) : Type 0 where
  pub same : IsSame old new
  pub decided : List Decided
  pub left : ℕ
  pub ran : clock old.machine.program old.machine.state row
      ≡ done (record { state = new.machine.state; decided = decided }) left
  pub told : new.decided.items ≡ old.decided.items ++ decided
  pub now : new.machine.state.standing.now ≡ old.machine.state.standing.now + 1
  pub room : length new.machine.state.standing.attempts + old.decided.room
      ≤ length old.machine.state.standing.attempts + new.decided.room + 1

-- so many clocks more, each over this row
pub record AreMore (old : Monitor) (row : List ℕ) (clocks : ℕ) (new : Monitor) : Type 0 where
  pub same : IsSame old new
  pub decided : List Decided
  pub ran : run_from old.machine.program old.machine.state (replicate clocks row)
      ≡ done (record { state = new.machine.state; decided = decided }) 0
  pub told : new.decided.items ≡ old.decided.items ++ decided
  pub now : new.machine.state.standing.now ≡ old.machine.state.standing.now + clocks
  pub room : length new.machine.state.standing.attempts + old.decided.room
      ≤ length old.machine.state.standing.attempts + new.decided.room + clocks

-- over these rows it went on from one state to the other
pub record HasGone (rows : List (List ℕ)) (old new : Monitor) : Type 0 where
  pub decided : List Decided
  pub ran : run_from old.machine.program old.machine.state rows
      ≡ done (record { state = new.machine.state; decided = decided }) 0
  pub told : new.decided.items ≡ old.decided.items ++ decided

-- only the room for what it decides is another
pub record IsUnmoved (old new : Monitor) : Type 0 where
  pub machine : new.machine ≡ old.machine
  pub from : new.from ≡ old.from
  pub to : new.to ≡ old.to
  pub attempts : new.attempts ≡ old.attempts
  pub since : new.since ≡ old.since
  pub decided : new.decided.items ≡ old.decided.items

-- nothing is decided since its place
pub record IsCleared (old new : Monitor) : Type 0 where
  pub machine : new.machine ≡ old.machine
  pub from : new.from ≡ old.from
  pub to : new.to ≡ old.to
  pub attempts : new.attempts ≡ old.attempts
  pub since : new.since ≡ old.machine.state.standing.now
  pub decided : new.decided.items ≡ []
