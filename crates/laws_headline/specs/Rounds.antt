-- The states at the start of a round, before its last step and at its end.
use Rattle.std.specs.Prelude.{◌≡◌, ℕ, ◌+◌, ◌-◌, ◌<◌, min, List, [], ◌∷◌, ◌++◌, Some, None, length}
use Rattle.std.specs.Prelude.{map, replicate, take, slice_get}
use Rattle.std.specs.List.{range_with_len}
use Rattle.verifier.specs.Programs.{IsAccepted}
use Rattle.machine_checked.specs.Outcomes.{done}
use Rattle.machine_checked.specs.Machine.{opening, clocks}
use Rattle.machine_batches.specs.Batches.{batch_of}
use Rattle.workers_core.specs.States.{MonitorState, WorkerState, BatchState, CoreState, Setting}
use Rattle.workers_core.specs.States.{monitor_clock, advanced, monitor_cleared, batch}
use Rattle.laws_headline.specs.Steps.{owned_lists}

-- The monitor stands at this clock with nothing to publish. Its program is accepted by the
-- verifier and has a row for each clock of the trace, and over the rows before this clock the
-- checked machine comes to the monitor's state.
pub record IsWaiting (g : Setting) (clock : ℕ) (m : MonitorState) : Type 0 where
  pub accepted : IsAccepted m.program
  pub rows : length (g.rows m.program) ≡ g.clocks
  pub now : monitor_clock m ≡ clock
  pub since : m.since ≡ clock
  pub told : m.decided ≡ []
  pub state : clocks m.program (opening m.program) (take clock (g.rows m.program))
      ≡ done m.state 0

-- a worker with an empty hand, and these in its done list
abbrev pub with_done : List ℕ → WorkerState
with_done numbers = record { hand = None; done = numbers }

-- Between two rounds: all monitors wait at the window's end, in source order, and none of so many
-- workers has any.
pub record IsAtRest (g : Setting) (crew : ℕ) (s : CoreState) : Type 0 where
  pub waiting : s.waiting ≡ range_with_len 0 (length s.monitors)
  pub workers : s.workers ≡ replicate crew (with_done [])
  pub monitors : (i : ℕ) (m : MonitorState) → slice_get s.monitors i ≡ Some m →
      IsWaiting g s.end m

-- Each of so many monitors has an owner, one of so many workers.
pub record AreOwners (monitors crew : ℕ) (owners : List ℕ) : Type 0 where
  pub each : length owners ≡ monitors
  pub known : (i w : ℕ) → slice_get owners i ≡ Some w → w < crew

-- the end of the next window, and how many clocks it has
abbrev pub next_end : Setting → CoreState → ℕ
next_end g s = min g.clocks (s.end + g.size)

abbrev pub next_clocks : Setting → CoreState → ℕ
next_clocks g s = next_end g s - s.end

-- the monitor after k clocks more of its rows
abbrev pub further : Setting → ℕ → MonitorState → MonitorState
further g k m = advanced (g.rows m.program) k m

-- the monitors after k clocks more, with nothing left to publish
abbrev pub all_further : Setting → ℕ → List MonitorState → List MonitorState
all_further g k monitors = map (λ m. monitor_cleared (further g k m)) monitors

-- what monitors, numbered from low on, publish after k clocks more, in source order
abbrev pub batches_from : Setting → ℕ → ℕ → List MonitorState → List BatchState
batches_from g k low [] = []
batches_from g k low (m ∷ monitors) =
    batch low (further g k m) ∷ batches_from g k (low + 1) monitors

-- After a round's steps but the last: all monitors have published, and each worker has those that
-- it owns in its done list.
abbrev pub worked : Setting → List ℕ → CoreState → CoreState
worked g owners s = record {
  first = s.end;
  end = next_end g s;
  monitors = all_further g (next_clocks g s) s.monitors;
  waiting = [];
  workers = map with_done (owned_lists owners (length s.workers));
  board = s.board ++ batches_from g (next_clocks g s) 0 s.monitors;
}

-- After the last step: all monitors wait again, and no worker has any.
abbrev pub gathered : Setting → CoreState → CoreState
gathered g s = record {
  first = s.end;
  end = next_end g s;
  monitors = all_further g (next_clocks g s) s.monitors;
  waiting = s.waiting;
  workers = s.workers;
  board = s.board ++ batches_from g (next_clocks g s) 0 s.monitors;
}

-- what a monitor publishes in a round: the batch of its program for the clocks of the next window
abbrev pub round_batch : Setting → CoreState → ℕ → MonitorState → BatchState
round_batch g s number m = record {
  monitor = number;
  first = s.end;
  end = next_end g s;
  decided = batch_of m.program (g.rows m.program) s.end (next_end g s);
}
