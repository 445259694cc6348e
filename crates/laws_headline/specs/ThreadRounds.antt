-- A round by threads, as a round of the core.
use Rattle.std.specs.Prelude.{◌≡◌, ℕ, ◌<◌, ◌≤◌, List, [], ◌∷◌, ◌++◌, length, map}
use Rattle.bytecode_programs.specs.Values.{ProgramData}
use Rattle.crossbeam_queue.specs.Passes.{Pass}
use Rattle.vcd_reader.specs.Dump.{Contents}
use Rattle.cycle_window.specs.declared.window.Window.{Window}
use Rattle.cycle_window.specs.Held.{first_in, end_in}
use Rattle.workers_core.specs.declared.job.Job.{Job}
use Rattle.workers_core.specs.Parts.{batch_state}
use Rattle.workers_core.specs.Standing.{monitor_state}
use Rattle.workers_core.specs.States.{CoreState, MonitorState, BatchState, Setting, put_each}
use Rattle.workers_core.specs.Values.{Says, job_value, setting_of}
use Rattle.verdicts.specs.declared.board.Board.{Board}
use Rattle.workers_bench.specs.declared.numbered.Numbered.{Numbered}
use Rattle.workers_bench.specs.declared.passes.Hand.{Hand}
use Rattle.workers_bench.specs.Hands.{numbers, NumbersRise}
use Rattle.verdicts.specs.Receipts.{shown_by}
use Rattle.workers.specs.declared.worker.Published.{Published}
use Rattle.workers.specs.ThreadRounds.{taken_by, IsThreadRound}
use Rattle.laws_headline.specs.Steps.{owned_lists}
use Rattle.laws_headline.specs.Rounds.{IsAtRest, AreOwners, gathered, next_end}
use Rattle.laws_headline.specs.RoundTheorems.{IsRound}

-- what a thread published, and the monitor after it, as the core has them
abbrev pub batch_told : Published → BatchState
batch_told p = batch_state (shown_by p.receipt)

abbrev pub monitor_told : Published → MonitorState
monitor_told p = monitor_state p.monitor.monitor.value

abbrev pub programs_of : List MonitorState → List ProgramData
programs_of monitors = map (λ (m : MonitorState). m.program) monitors

-- numbers in source order
abbrev pub in_order : List ℕ → List ℕ
in_order xs = put_each xs []

-- The numbers of the monitors that each worker ran, worker by worker: those that its pass took. The
-- first one also ran what the bench still held.
abbrev pub run_lists : List (Pass Numbered Hand) → List ℕ → List (List ℕ)
run_lists [] rest = []
run_lists (pass ∷ passes) rest = (taken_by pass ++ rest) ∷ map taken_by passes

-- The core's round with these owners: before its last step each worker's done list is what it ran,
-- in source order, and after it the monitors and the new batches are those of the threads.
pub record IsSameRound (g : Setting) (crew : ℕ) (s : CoreState) (ran : List (List ℕ))
    (ps : List Published) : Type 0 where
  pub owners : List ℕ
  pub known : AreOwners (length s.monitors) crew owners
  pub done : owned_lists owners crew ≡ map in_order ran
  pub round : IsRound g crew owners s
  pub board : (gathered g s).board ≡ s.board ++ map batch_told ps
  pub monitors : (gathered g s).monitors ≡ map monitor_told ps
  pub programs : programs_of (gathered g s).monitors ≡ programs_of s.monitors

-- what doesn't change for a core over the job
abbrev pub setting_over : Job → Contents → ℕ → CoreState → Setting
setting_over j c size s = setting_of (record { job = job_value j; size = size; state = s }) c

-- A core over the job rests, with so many workers, clocks remain, and the window is its next one.
pub record IsNextWindow (j : Job) (c : Contents) (size crew : ℕ) (s : CoreState) (w : Window) :
    Type 0 where
  pub says : Says (job_value j) c
  pub programs : programs_of s.monitors ≡ j.programs.items
  pub rests : IsAtRest (setting_over j c size s) crew s
  pub more : s.end < (setting_over j c size s).clocks
  pub sizes : (1 ≤ size) × (1 ≤ crew)
  pub first : first_in w ≡ s.end
  pub end : end_in w ≡ next_end (setting_over j c size s) s

-- From there a round by threads is a list of the core's steps.
abbrev pub ThreadRoundsAreSteps : Type 0
ThreadRoundsAreSteps =
    (j : Job) (c : Contents) (size : ℕ) (s : CoreState) (w : Window) (board : Board)
    (crew : ℕ) (ps : List Published) → IsNextWindow j c size crew s w →
    (round : IsThreadRound j w board crew ps) →
    IsSameRound (setting_over j c size s) crew s (run_lists round.passes (numbers round.rest)) ps

-- What a pass took is in order: it rises, as `work` ensures.
abbrev pub TakenIsInOrder : Type 0
TakenIsInOrder = (xs : List ℕ) → NumbersRise xs → in_order xs ≡ xs
