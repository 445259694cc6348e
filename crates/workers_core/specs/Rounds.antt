-- A core of one worker between rounds, and in the midst of one.
use Rattle.std.specs.Prelude.{◌≡◌, ℕ, ◌-◌, ◌<◌, ◌≤◌, List, [], ◌∷◌, Option, Some, None, length}
use Rattle.std.specs.Prelude.{slice_get, is_some, true}
use Rattle.std.specs.List.{range_with_len}
use Rattle.vcd_reader.specs.Dump.{Contents}
use Rattle.cycle_window.specs.Ticks.{ticks_of}
use Rattle.workers_core.specs.declared.step.Step.{Step}
use Rattle.workers_core.specs.States.{MonitorState, WorkerState, CoreState, monitor_clock, next}
use Rattle.workers_core.specs.Values.{JobValue, CoreValue, Says, setting_of}

-- one worker, with this in the hand and in the done list
abbrev pub one_worker : Option ℕ → List ℕ → List WorkerState
one_worker hand done = record { hand = hand; done = done } ∷ []

-- The monitor stands at a clock, and has published all that it decided.
pub record StandsAtClock (clock : ℕ) (m : MonitorState) : Type 0 where
  pub at : monitor_clock m ≡ clock
  pub told : m.decided ≡ []

-- All of so many monitors wait at the window's end, which is one of so many clocks or their end,
-- and the worker has none.
pub record IsResting (count clocks : ℕ) (s : CoreState) : Type 0 where
  pub many : length s.monitors ≡ count
  pub inside : s.end ≤ clocks
  pub waiting : s.waiting ≡ range_with_len 0 count
  pub workers : s.workers ≡ one_worker None []
  pub monitors : (i : ℕ) (m : MonitorState) → slice_get s.monitors i ≡ Some m
      → StandsAtClock s.end m

-- In a round the first so many monitors are done, and stand at the window's end. The others wait at
-- its first clock.
pub record IsAmid (count clocks behind : ℕ) (s : CoreState) : Type 0 where
  pub many : length s.monitors ≡ count
  pub some : s.first < s.end
  pub inside : s.end ≤ clocks
  pub few : behind ≤ count
  pub waiting : s.waiting ≡ range_with_len behind (count - behind)
  pub workers : s.workers ≡ one_worker None (range_with_len 0 behind)
  pub front : (i : ℕ) (m : MonitorState) → slice_get s.monitors i ≡ Some m → i < behind →
      StandsAtClock s.end m
  pub rest : (i : ℕ) (m : MonitorState) → slice_get s.monitors i ≡ Some m → behind ≤ i →
      StandsAtClock s.first m

-- The job's dump has some contents, and whatever they are, the job's ticks are those of its clock.
pub record HasTrace (j : JobValue) : Type 0 where
  pub says : ∥ ((c : Contents) × Says j c) ∥₁
  pub ticks : (c : Contents) → Says j c → j.ticks ≡ ticks_of c j.code

-- the core rests
abbrev pub Rests : CoreValue → Type 0
Rests v = (c : Contents) → Says v.job c →
    IsResting (length v.job.programs) (length v.job.ticks) v.state

-- the core is in a round, with so many monitors done
abbrev pub HasDone : ℕ → CoreValue → Type 0
HasDone behind v = (c : Contents) → Says v.job c →
    IsAmid (length v.job.programs) (length v.job.ticks) behind v.state

-- the window is the same
pub record IsSameWindow (old new : CoreState) : Type 0 where
  pub first : new.first ≡ old.first
  pub end : new.end ≡ old.end

abbrev pub KeepsWindow : CoreValue → CoreValue → Type 0
KeepsWindow old new = (c : Contents) → Says old.job c → IsSameWindow old.state new.state

-- the step is allowed
abbrev pub Allows : CoreValue → Step → Type 0
Allows v step = (c : Contents) → Says v.job c →
    is_some (next (setting_of v c) v.state step) ≡ true

-- the step leads to this state
abbrev pub StepLeadsTo : CoreValue → Step → CoreState → Type 0
StepLeadsTo v step s = (c : Contents) → Says v.job c →
    next (setting_of v c) v.state step ≡ Some s
