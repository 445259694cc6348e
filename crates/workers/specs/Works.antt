-- What one worker's round gives back.
use Rattle.std.specs.Prelude.{◌≡◌, ℕ, ◌+◌, ◌-◌, ◌≤◌, ◌^◌, Bool, Option, Some, None, List, []}
use Rattle.std.specs.Prelude.{◌∷◌, ◌++◌}
use Rattle.std.specs.Prelude.{map, length, All, IfSome}
use Rattle.std.specs.List.{sum_by}
use Rattle.signals.specs.declared.verdict.Verdict.{Verdict}
use Rattle.vcd_reader.specs.Dump.{Contents}
use Rattle.cycle_window.specs.declared.window.Window.{Window}
use Rattle.cycle_window.specs.Held.{first_in, end_in}
use Rattle.report_lines.specs.Tallies.{is_holds, is_vacuous, is_fails, is_disabled}
use Rattle.machine_batches.specs.declared.batch.Batch.{Batch}
use Rattle.machine_batches.specs.Batches.{batch_of}
use Rattle.workers_core.specs.declared.job.Job.{Job}
use Rattle.workers_core.specs.Values.{Says, job_value, rows_over}
use Rattle.workers_core.specs.Taken.{TookIn}
use Rattle.verdicts.specs.declared.board.Board.{Board}
use Rattle.verdicts.specs.declared.board.Receipt.{Receipt}
use Rattle.verdicts.specs.Receipts.{IsReceiptOf, shown_by}
use Rattle.verdicts.specs.declared.tally.Share.{Share}
use Rattle.verdicts.specs.Counts.{count_of}
use Rattle.verdicts.specs.Shares.{parts, amounts, plus}
use Rattle.crossbeam_queue.specs.Passes.{Pass, view}
use Rattle.workers_bench.specs.declared.numbered.Numbered.{Numbered}
use Rattle.workers_bench.specs.declared.passes.Hand.{Hand}
use Rattle.workers_bench.specs.declared.bench.Bench.{Bench}
use Rattle.workers_bench.specs.Monitors.{IsMonitorAt}
use Rattle.workers_bench.specs.Hands.{hand, NumbersRise, end_after}
use Rattle.workers_bench.specs.Benches.{IsPassOfBench}
use Rattle.workers.specs.declared.worker.Published.{Published}
use Rattle.workers.specs.declared.worker.Worked.{Worked}

-- of at most 65,536 clocks
abbrev pub IsSized : Window → Type 0
IsSized w = (first_in w ≤ end_in w) × (end_in w - first_in w ≤ 65536)

abbrev pub monitor_clock_of : Numbered → ℕ
monitor_clock_of x = x.monitor.value.machine.state.standing.now

-- The batch of the job's monitor over the clocks from a to b.
pub record IsBatch (j : Job) (a b : ℕ) (x : Numbered) (batch : Batch) : Type 0 where
  pub monitor : batch.monitor ≡ x.number
  pub first : batch.first ≡ a
  pub end : batch.end ≡ b
  pub decided : (c : Contents) → Says (job_value j) c →
      batch.decided.items
      ≡ batch_of x.monitor.value.machine.program
      (rows_over (job_value j) c x.monitor.value.machine.program) a b
  pub few : length batch.decided.items ≤ 2 ^ 17

-- The job's monitor at the end of the window, with a receipt of this board for its batch.
pub record IsOnBoard (j : Job) (w : Window) (board : Board) (x : Numbered) (r : Receipt) :
    Type 0 where
  pub at_end : IsMonitorAt j (end_in w) x
  pub of_board : IsReceiptOf board r
  pub batch : IsBatch j (first_in w) (end_in w) x (shown_by r)

-- its line took in what the batch has, and nothing else
abbrev pub HasLine : Published → Type 0
HasLine p = TookIn p.line (shown_by p.receipt).decided.items

-- The job's monitor at the end of the window, with a receipt for its batch and the line of that.
pub record IsPublished (j : Job) (w : Window) (board : Board) (p : Published) : Type 0 where
  pub on : IsOnBoard j w board p.monitor p.receipt
  pub line : HasLine p

abbrev pub published_number : Published → ℕ
published_number p = p.monitor.number

-- the number of the monitor, if there is one
abbrev pub kept_number : Option Numbered → List ℕ
kept_number None = []
kept_number (Some m) = m.number ∷ []

-- how many verdicts of a kind the batches have
abbrev pub published_count : (Verdict → Bool) → List Published → ℕ
published_count is ps =
    sum_by (λ (p : Published). count_of is (shown_by p.receipt).decided.items) ps

abbrev pub published_counts : List Published → List ℕ
published_counts ps =
    published_count is_holds ps ∷ published_count is_vacuous ps ∷ published_count is_fails ps
    ∷ published_count is_disabled ps ∷ []

abbrev pub numbers_back : List Published → Option Numbered → List ℕ
numbers_back published kept = map published_number published ++ kept_number kept

-- What a worker that began with the view `from`, the share `given` and so many claims has come to.
-- It has each monitor that its pass took since then, once.
pub record HasWorked {L : Type 0} (bench : Bench) (board : Board) (w : Window) (from : Hand)
    (given : Share L) (claimed : ℕ) (pass : Pass Numbered Hand) (share : Share L) (claims : ℕ)
    (published : List Published) (kept : Option Numbered) : Type 0 where
  pub of : IsPassOfBench bench pass
  pub taken : view pass
      ≡ hand from.parts from.puts from.round from.put (from.taken ++ numbers_back published kept)
  pub rises : NumbersRise (view pass).taken
      × (end_after 0 (view pass).taken ≤ length bench.job.now.programs.items)
  pub at_end : All (IsPublished bench.job.now w board) published
  pub at_own : IfSome kept (λ m. IsMonitorAt bench.job.now (monitor_clock_of m) m)
  pub shared : (parts share ≡ parts given)
      × (amounts share ≡ plus (amounts given) (published_counts published))
  pub counted : claims ≡ claimed + length (numbers_back published kept)

abbrev pub Works : {L : Type 0} → Bench → Board → Window → Hand → Share L → ℕ → Worked L → Type 0
Works bench board window from given claimed w =
    HasWorked bench board window from given claimed w.pass w.share w.claims w.published.items w.kept
