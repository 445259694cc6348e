-- What every core has, whatever its steps were.
use Rattle.std.specs.Prelude.{◌≡◌, ℕ, ◌≤◌, ◌++◌, Some, length, map, take, slice_get}
use Rattle.bytecode_programs.specs.Values.{ProgramData}
use Rattle.verifier.specs.Programs.{IsAccepted}
use Rattle.vcd_reader.specs.Dump.{Contents}
use Rattle.cycle_window.specs.Ticks.{ticks_of}
use Rattle.machine_checked.specs.Outcomes.{done}
use Rattle.machine_checked.specs.Machine.{opening, clocks}
use Rattle.machine_batches.specs.Batches.{batch_of}
use Rattle.workers_core.specs.States.{MonitorState, BatchState, EachStandsOnce, monitor_clock}
use Rattle.workers_core.specs.States.{published_by}
use Rattle.workers_core.specs.Values.{JobValue, CoreValue, rows_over}

-- The monitor is in the state of the checked machine over the trace's first rows up to its place,
-- with no trap on the way.
abbrev pub IsInState : JobValue → Contents → MonitorState → Type 0
IsInState j c m =
    clocks m.program (opening m.program) (take (monitor_clock m) (rows_over j c m.program))
    ≡ done m.state 0

-- The batch is that of a program for the batch's clocks, which are clocks of the trace.
pub record IsBatchOf (j : JobValue) (c : Contents) (p : ProgramData) (b : BatchState) :
    Type 0 where
  pub program : slice_get j.programs b.monitor ≡ Some p
  pub order : b.first ≤ b.end
  pub within : b.end ≤ length (ticks_of c j.code)
  pub decided : b.decided ≡ batch_of p (rows_over j c p) b.first b.end

-- What the monitor of a number has published, and after it what it has not yet, is all that its
-- program decides at the clocks up to its place. So nothing is lost, or told twice.
abbrev pub PublishesAll : CoreValue → Contents → ℕ → MonitorState → Type 0
PublishesAll v c number m =
    published_by v.state.board number ++ m.decided
    ≡ batch_of m.program (rows_over v.job c m.program) 0 (monitor_clock m)

-- The job's ticks are the trace's. The core's monitors are the job's programs, in order, each
-- accepted by the verifier; each stands once among those that wait, in hands and done lists; each
-- is in the state of the checked machine over the trace's first rows up to its place, which is a
-- clock of the trace or its end; each batch on the board is that of its monitor for its clocks; and
-- the batches of a monitor leave nothing out.
pub record FollowsMachine (v : CoreValue) (c : Contents) : Type 0 where
  pub ticks : v.job.ticks ≡ ticks_of c v.job.code
  pub once : EachStandsOnce v.state
  pub programs : map (λ m. m.program) v.state.monitors ≡ v.job.programs
  pub accepted : (i : ℕ) (m : MonitorState) → slice_get v.state.monitors i ≡ Some m →
      IsAccepted m.program
  pub within : (i : ℕ) (m : MonitorState) → slice_get v.state.monitors i ≡ Some m →
      monitor_clock m ≤ length (ticks_of c v.job.code)
  pub monitors : (i : ℕ) (m : MonitorState) → slice_get v.state.monitors i ≡ Some m →
      IsInState v.job c m
  pub batches : (n : ℕ) (b : BatchState) → slice_get v.state.board n ≡ Some b →
      (p : ProgramData) × IsBatchOf v.job c p b
  pub whole : (i : ℕ) (m : MonitorState) → slice_get v.state.monitors i ≡ Some m →
      PublishesAll v c i m
