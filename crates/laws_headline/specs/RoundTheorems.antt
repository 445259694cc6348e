-- Laws of rounds.
use Rattle.std.specs.Prelude.{◌≡◌, ℕ, ◌<◌, ◌≤◌, List, Some, length, slice_get}
use Rattle.bytecode_programs.specs.Values.{ProgramData}
use Rattle.verifier.specs.Programs.{IsAccepted}
use Rattle.vcd_reader.specs.Dump.{Contents}
use Rattle.cycle_window.specs.Ticks.{ticks_of}
use Rattle.workers_core.specs.States.{MonitorState, CoreState, Setting, batch}
use Rattle.workers_core.specs.Values.{JobValue, opening_core, setting_of}
use Rattle.laws_headline.specs.Steps.{state_after, working_steps, round_steps, owned_lists}
use Rattle.laws_headline.specs.Rounds.{IsAtRest, AreOwners, worked, gathered, further, next_clocks}
use Rattle.laws_headline.specs.Rounds.{round_batch}
use Rattle.laws_headline.specs.Owners.{AreDealt}

-- The steps of a round lead from s to a state in which all rest again. Before the last of them each
-- worker has the monitors that it owns in its done list. What each monitor publishes is the batch
-- of its program for the clocks of the next window.
pub record IsRound (g : Setting) (crew : ℕ) (owners : List ℕ) (s : CoreState) : Type 0 where
  pub working : state_after g s (working_steps owners (next_clocks g s)) ≡ Some (worked g owners s)
  pub whole : state_after g s (round_steps owners (next_clocks g s)) ≡ Some (gathered g s)
  pub rests : IsAtRest g crew (gathered g s)
  pub batches : (i : ℕ) (m : MonitorState) → slice_get s.monitors i ≡ Some m →
      batch i (further g (next_clocks g s) m) ≡ round_batch g s i m

-- Whichever workers own the monitors, there is a round from each state of rest at which clocks
-- remain.
abbrev pub RoundsAreSteps : Type 0
RoundsAreSteps =
    (g : Setting) (crew : ℕ) (owners : List ℕ) (s : CoreState) → IsAtRest g crew s →
    AreOwners (length s.monitors) crew owners → s.end < g.clocks → 1 ≤ g.size →
    IsRound g crew owners s

-- A core of accepted programs is at rest before its first step.
abbrev pub CoresRestAtFirst : Type 0
CoresRestAtFirst =
    (j : JobValue) (c : Contents) (crew size : ℕ) → j.ticks ≡ ticks_of c j.code →
    ((i : ℕ) (p : ProgramData) → slice_get j.programs i ≡ Some p → IsAccepted p) →
    IsAtRest (setting_of (opening_core j crew size) c) crew (opening_core j crew size).state

-- What the workers own is all monitors, dealt out.
abbrev pub OwnersAreDealt : Type 0
OwnersAreDealt =
    (monitors crew : ℕ) (owners : List ℕ) → AreOwners monitors crew owners →
    AreDealt monitors (owned_lists owners crew)

-- Where all monitors are dealt out, some owners own just these lists.
abbrev pub DealtHaveOwners : Type 0
DealtHaveOwners =
    (monitors : ℕ) (lists : List (List ℕ)) → AreDealt monitors lists →
    (owners : List ℕ) × AreOwners monitors (length lists) owners
    × (owned_lists owners (length lists) ≡ lists)
