-- Monitors before their first clock.
use Rattle.std.specs.Prelude.{◌≡◌, ℕ, ◌+◌, ◌≤◌, List, [], ◌∷◌, length}
use Rattle.bytecode_programs.specs.Values.{ProgramData}
use Rattle.machine_checked.specs.Machine.{opening}
use Rattle.verifier.specs.Programs.{IsAccepted}
use Rattle.workers_core.specs.declared.monitor.Monitor.{Monitor}
use Rattle.workers_core.specs.States.{MonitorState}

-- A monitor's program, and its part of a row of all signals: from the first place up to the second,
-- which is not in it.
pub record MonitorPart : Type 0 where
  pub program : ProgramData
  pub from : ℕ
  pub to : ℕ

abbrev pub monitor_part : Monitor → MonitorPart
monitor_part m = record { program = m.machine.program; from = m.from; to = m.to }

abbrev pub part_at : ℕ → ProgramData → MonitorPart
part_at from p = record { program = p; from = from; to = from + length p.signals }

-- those of programs, whose signals lie one after the other in a row
abbrev pub parts_from : ℕ → List ProgramData → List MonitorPart
parts_from from [] = []
parts_from from (p ∷ ps) = part_at from p ∷ parts_from (from + length p.signals) ps

-- a program before its first clock
abbrev pub opened_monitor : ProgramData → MonitorState
opened_monitor p = record { program = p; state = opening p; since = 0; decided = [] }

-- An accepted program before its first clock.
pub record IsNew (m : Monitor) : Type 0 where
  pub accepted : IsAccepted m.machine.program
  pub declared : m.machine.program.header.limits.attempts ≤ m.attempts
  pub state : m.machine.state ≡ opening m.machine.program
  pub since : m.since ≡ 0
  pub decided : m.decided.items ≡ []
