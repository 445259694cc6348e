-- What the threads of a round did (own).
use Rattle.std.specs.Prelude.{◌≡◌, ℕ, ◌+◌, List, [], All, length}
use Rattle.crossbeam_queue.specs.Passes.{Pass, view}
use Rattle.cycle_window.specs.declared.window.Window.{Window}
use Rattle.workers_core.specs.declared.job.Job.{Job}
use Rattle.verdicts.specs.declared.board.Board.{Board}
use Rattle.workers_bench.specs.declared.numbered.Numbered.{Numbered}
use Rattle.workers_bench.specs.declared.passes.Hand.{Hand}
use Rattle.workers_bench.specs.Hands.{total, numbers}
use Rattle.workers_bench.specs.Passes.{taken_of}
use Rattle.workers.specs.declared.worker.Published.{Published}
use Rattle.workers.specs.Works.{IsPublished}
use Rattle.workers.specs.Runs.{upto, published_numbers}

-- the numbers of the monitors that were claimed by a pass
abbrev pub taken_by : Pass Numbered Hand → List ℕ
taken_by pass = (view pass).taken

-- A round of so many workers. All monitors were put on the bench in their order. There is a pass
-- for each worker, and what the passes took and what the bench still held is, together, what was
-- put, each once: whatever each number weighs, they weigh the same. Each monitor is published, in
-- their order. Which thread had which pass is not said.
pub record IsThreadRound (j : Job) (w : Window) (board : Board) (crew : ℕ) (ps : List Published) :
    Type 0 where
  pub putting : Pass Numbered Hand
  pub passes : List (Pass Numbered Hand)
  pub rest : List Numbered
  pub each : length passes ≡ crew
  pub put : (view putting).put ≡ upto 0 (length j.programs.items)
  pub none : taken_by putting ≡ []
  pub taken : (h : ℕ → ℕ) → total h (view putting).put
      ≡ (taken_of h putting + total (taken_of h) passes) + total h (numbers rest)
  pub order : published_numbers ps ≡ upto 0 (length j.programs.items)
  pub published : All (IsPublished j w board) ps
