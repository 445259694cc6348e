-- A round.
use Rattle.std.specs.Prelude.{◌≡◌, ℕ, zero, suc, ◌≤◌, ◌^◌, false, All, List, [], ◌∷◌, map}
use Rattle.crossbeam_queue.specs.Passes.{Pass, view}
use Rattle.cycle_window.specs.declared.window.Window.{Window}
use Rattle.verdicts.specs.declared.board.Board.{Board}
use Rattle.verdicts.specs.Shares.{parts, amounts, EachAtMost}
use Rattle.workers_bench.specs.declared.numbered.Numbered.{Numbered}
use Rattle.workers_bench.specs.declared.passes.Hand.{Hand}
use Rattle.workers_bench.specs.declared.bench.Bench.{Bench}
use Rattle.workers_bench.specs.Hands.{hand, fresh, total}
use Rattle.workers_bench.specs.Passes.{taken_of}
use Rattle.workers_bench.specs.Benches.{IsPassOfBench, round_of}
use Rattle.workers.specs.declared.crew.Task.{Task}
use Rattle.workers.specs.declared.round.Member.{Member}
use Rattle.workers.specs.declared.worker.Published.{Published}
use Rattle.workers.specs.declared.worker.Worked.{Worked}
use Rattle.workers.specs.Works.{published_number, IsPublished, numbers_back}

-- n numbers from low on
abbrev pub upto : ℕ → ℕ → List ℕ
upto low zero = []
upto low (suc n) = low ∷ upto (suc low) n

abbrev pub published_numbers : List Published → List ℕ
published_numbers ps = map published_number ps

module _ {L : Type 0} where
  -- a worker between two rounds
  abbrev pub IsMember : Member L → Type 0
  IsMember m = parts m.share ≡ 1

  -- a worker at the start of the round
  pub record Begins (bench : Bench) (t : Task L) : Type 0 where
    pub of : IsPassOfBench bench t.pass
    pub none : view t.pass ≡ fresh 1 false (round_of bench)
    pub share : (parts t.share ≡ 1) × EachAtMost (amounts t.share) (2 ^ 55)
    pub claims : t.claims ≤ 2 ^ 55

  -- a worker at the end of the round: it gives back what its pass took
  pub record EndsRound (bench : Bench) (board : Board) (window : Window)
      (w : Worked L) : Type 0 where
    pub of : IsPassOfBench bench w.pass
    pub taken : view w.pass
        ≡ hand 1 false (round_of bench) [] (numbers_back w.published.items w.kept)
    pub at_end : All (IsPublished bench.job.now window board) w.published.items
    pub share : parts w.share ≡ 1

-- what the passes took is what was published, each weighed by h
abbrev pub TakenIs : List (Pass Numbered Hand) → List Published → Type 0
TakenIs passes published =
    (h : ℕ → ℕ) → total (taken_of h) passes ≡ total h (published_numbers published)
