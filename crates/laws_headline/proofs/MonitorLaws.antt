-- A monitor that runs through a window.
use Rattle.std.proofs.Common.{◌≡◌, ℕ, ◌+◌, ◌-◌, ◌≤◌, List, ◌++◌, length, refl, sym, ap, ◌∙◌, subst, arith}
use Rattle.signals.specs.declared.verdict.Decided.{Decided}
use Rattle.machine_checked.specs.Runs.{run_from}
use Rattle.machine_batches.specs.Batches.{rows_between, batch_of, decided_in, HasCome}
use Rattle.machine_batches.proofs.JoinLaws.{come-to, ends-in}
use Rattle.workers_core.proofs.RoundRunLaws.{Runs, accepted-on, length-between}
use Rattle.workers_core.specs.States.{
  MonitorState,
  BatchState,
  Setting,
  monitor_clock,
  monitor_moved,
  monitor_cleared,
  batch,
}
use Rattle.laws_headline.specs.Rounds.{IsWaiting, further}

-- it runs from one clock to the other
pub record Goes (g : Setting) (a b k : ℕ) (m : MonitorState) : Type 0 where
  pub now : monitor_clock m ≡ a
  pub to : monitor_clock (further g k m) ≡ b

module _ (g : Setting) (a b k : ℕ) (m : MonitorState) (h : IsWaiting g a m) (all : a + k ≡ b)
    (inside : b ≤ g.clocks) where
  abbrev rows : List (List ℕ)
  rows = g.rows m.program

  ran : Runs m.program m.state (rows_between rows a b)
  ran = accepted-on m.program h.accepted rows a b m.state (omega (arith, all)) h.state

  abbrev new : MonitorState
  new =
      record {
        program = m.program;
        state = ran.outcome.state;
        since = m.since;
        decided = m.decided ++ ran.outcome.decided;
      }

  -- the rows that it runs over
  over-is : rows_between rows (monitor_clock m) (monitor_clock m + k) ≡ rows_between rows a b
  over-is =
      ap (λ (n : ℕ). rows_between rows n (n + k)) h.now ∙ ap (λ (n : ℕ). rows_between rows a n) all

  further-is : further g k m ≡ new
  further-is =
      ap (λ (over : List (List ℕ)). monitor_moved m (run_from m.program m.state over)) over-is
      ∙ ap (monitor_moved m) ran.ran

  new-now : monitor_clock new ≡ b
  new-now =
      let long : length (rows_between rows a b) ≡ b - a =
      length-between rows a b (omega (arith, all)) (omega (arith, inside, h.rows)) in
      omega (arith, ran.now, long, h.now, all)

  come : HasCome m.program rows a b ran.outcome.decided ran.outcome.state
  come =
      come-to m.program rows a b m.state ran.outcome.state ran.outcome.decided h.state ran.ran

  pub goes : Goes g a b k m
  goes = record { now = h.now; to = ap monitor_clock further-is ∙ new-now }

  new-waits : IsWaiting g b (monitor_cleared new)
  new-waits =
      record {
        accepted = h.accepted;
        rows = h.rows;
        now = new-now;
        since = new-now;
        told = refl;
        state = ends-in m.program rows a b ran.outcome.state ran.outcome.decided
            (omega (arith, all)) come;
      }

  pub waits : IsWaiting g b (monitor_cleared (further g k m))
  waits = subst (λ (x : MonitorState). IsWaiting g b (monitor_cleared x)) (sym further-is) new-waits

  abbrev told : ℕ → ℕ → ℕ → List Decided → BatchState
  told i first last decided =
      record { monitor = i; first = first; end = last; decided = decided }

  pub batch-is : (i : ℕ) → batch i (further g k m) ≡ told i a b (batch_of m.program rows a b)
  batch-is i =
      let here = m.decided ++ ran.outcome.decided in
      ap (batch i) further-is
      ∙ ap (λ (n : ℕ). told i n (monitor_clock new) here) h.since
      ∙ ap (λ (n : ℕ). told i a n here) new-now
      ∙ ap (λ (ds : List Decided). told i a b (ds ++ ran.outcome.decided)) h.told
      ∙ ap (told i a b) (sym (ap decided_in come.ran))
