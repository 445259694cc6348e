use Rattle.std.proofs.Common.{◌++◌, ◌∷◌, [], ap, ◌∙◌, sym, refl, subst, arith, IfSome}
use Rattle.std.proofs.lemmas.Option.{IfSome_then}
use Rattle.crossbeam_queue.specs.Passes.{view}
use Rattle.machine_batches.specs.declared.batch.Batch.{Batch}
use Rattle.cycle_window.specs.Held.{first_in}
use Rattle.workers_core.proofs.CorePartLaws.{of-ok}
use Rattle.verdicts.specs.Shares.{EachAtMost, amounts, plus}
use Rattle.verdicts.specs.Counts.{counts_of}
use Rattle.workers_bench.specs.declared.numbered.Numbered.{Numbered}
use Rattle.workers_bench.specs.Monitors.{IsMonitorAt}
use Rattle.workers_bench.specs.Hands.{TakesOne}
use Rattle.workers.specs.declared.worker.Published.{Published}
use Rattle.workers.specs.Works.{IsOnBoard}
use Rattle.workers.proofs.Placing.{stands-at, below}
use Rattle.workers.proofs.Running.{on-board-of, begins_with, keeps_one, publishes, fits, claims-few}
use Rattle.workers.proofs.worker.work.Goals as goal
use Rattle.workers.proofs.worker.work.Goals.{After-run_one-monitor}

pub loop-init : goal.loop-init
loop-init g c = (
  tt,
  tt,
  begins_with c.args.bench.now c.args.board.now c.args.window.now
      (view c.args.pass) c.args.share c.args.claims c.args.pass refl c.requires.pass.0 c.requires.taken _
      c.new-published.ensures.items,
)

taken : (g : _) (c : After-run_one-monitor g)
    → TakesOne (view c.loop.pass) c.in-Some-claimed.monitor (view c.claim-back.result.0)
taken g c = rw c.in-Some-claimed.is at c.claim-back.ensures.some

at_start : (g : _) (c : After-run_one-monitor g)
    → IsMonitorAt c.args.bench.now.job.now (first_in c.args.window.now) c.in-Some-claimed.monitor
at_start g c =
    let x : Numbered = c.in-Some-claimed.monitor in
    subst (λ k. IsMonitorAt c.args.bench.now.job.now k x) c.requires.round
    (rw c.in-Some-claimed.is at c.claim-back.ensures.job)

pub run_one-monitor-requires-clause-stands : goal.run_one-monitor-requires-clause-stands
run_one-monitor-requires-clause-stands g c =
    let x : Numbered = c.in-Some-claimed.monitor in
    let here = subst (λ k. IsMonitorAt c.args.bench.now.job.now k x) c.requires.round
    (rw c.in-Some-claimed.is at c.claim-back.ensures.job) in
    stands-at c.args.bench.now.job.now c.args.window.now (first_in c.args.window.now) x c.requires.window.0
    (omega arith) c.requires.window.1.0 here

pub run_one-monitor-requires-clause-here : goal.run_one-monitor-requires-clause-here
run_one-monitor-requires-clause-here g c =
    let x : Numbered = c.in-Some-claimed.monitor in
    let here : IsMonitorAt c.args.bench.now.job.now c.args.bench.now.at x =
    rw c.in-Some-claimed.is at c.claim-back.ensures.job in
    here.now ∙ c.requires.round

-- no line of it was made, and there may be a batch on the board
pub returns-in_default-line_of_batch : goal.returns-in_default-line_of_batch
returns-in_default-line_of_batch g c =
    let ran = (goal.at.returns-in_default-line_of_batch g c).After-run_one-monitor in
    let start = at_start g ran in
    keeps_one c.args.bench.now c.args.board.now c.args.window.now
    (view c.args.pass) c.args.share c.args.claims c.loop.pass c.claim-back.result.0 c.loop.share c.loop.claims
    c.loop.published.items _
    c.in-Some-claimed.monitor c.run_one-monitor.result.0 c.loop.invariant.2 (taken g ran)
    (below _ _ _ start) c.requires.pass.1 c.claim-back.ensures.of c.run_one-monitor.ensures.number
    (c.run_one-monitor.ensures.stands c.args.bench.now.job.now c.requires.window.0 start) c.reserve.ensures.items

on_board : (g : _) (c : After-run_one-monitor g)
    → IfSome c.run_one-monitor.result.1
    (IsOnBoard c.args.bench.now.job.now c.args.window.now c.args.board.now c.run_one-monitor.result.0)
on_board g c =
    IfSome_then c.run_one-monitor.result.1 c.run_one-monitor.ensures.published
    (λ r done. done c.args.bench.now.job.now c.requires.window.0 (at_start g c))

pub line_of_batch-requires-clause-of : goal.line_of_batch-requires-clause-of
line_of_batch-requires-clause-of g c =
    IfSome_then c.run_one-monitor.result.1
    (on_board g (goal.at.line_of_batch-requires-clause-of g c).After-run_one-monitor) (λ r done. done.of_board)

pub line_of_batch-requires-clause-few : goal.line_of_batch-requires-clause-few
line_of_batch-requires-clause-few g c =
    IfSome_then c.run_one-monitor.result.1
    (on_board g (goal.at.line_of_batch-requires-clause-few g c).After-run_one-monitor) (λ r done. done.batch.few)

pub add-totals-requires-clause-fits : goal.add-totals-requires-clause-fits
add-totals-requires-clause-fits g c =
    let ran = (goal.at.add-totals-requires-clause-fits g c).After-run_one-monitor in
    let p : Published = record {
      monitor = c.run_one-monitor.result.0;
      receipt = c.in-Some-line_of_batch.receipt;
      line = c.in-Some-line_of_batch.line;
    } in
    let same = rw c.in-Some-line_of_batch.is at c.line_of_batch.ensures.same in
    let line = rw c.in-Some-line_of_batch.is at c.line_of_batch.ensures.line in
    let done = on-board-of c.run_one-monitor.result.1 p same (on_board g ran) in
    subst (λ (b : Batch). EachAtMost (plus (amounts c.loop.share) (counts_of b.decided.items)) 72057594037927936)
    (sym c.read.ensures)
    (fits c.args.bench.now c.args.board.now c.args.window.now
    (view c.args.pass) c.args.share c.args.claims c.loop.pass c.loop.share c.loop.claims
    c.loop.published.items p c.loop.invariant.2
    (record { on = done; line = line }) c.requires.share.1)

pub loop-preserved : goal.loop-preserved
loop-preserved g c =
    let ran = (goal.at.loop-preserved g c).After-run_one-monitor in
    let p : Published = record {
      monitor = c.run_one-monitor.result.0;
      receipt = c.in-Some-line_of_batch.receipt;
      line = c.in-Some-line_of_batch.line;
    } in
    let same = rw c.in-Some-line_of_batch.is at c.line_of_batch.ensures.same in
    let line = rw c.in-Some-line_of_batch.is at c.line_of_batch.ensures.line in
    let done = on-board-of c.run_one-monitor.result.1 p same (on_board g ran) in
    let start = at_start g ran in (
      tt,
      tt,
      publishes c.args.bench.now c.args.board.now c.args.window.now
          (view c.args.pass) c.args.share c.args.claims c.loop.pass c.claim-back.result.0 c.loop.share
          c.add-totals.new.share c.loop.claims
          c.loop.published.items _ c.in-Some-claimed.monitor p c.loop.invariant.2 (taken g ran)
          (below _ _ _ start) c.requires.pass.1 c.claim-back.ensures.of c.run_one-monitor.ensures.number
          (record { on = done; line = line })
          c.add-totals.ensures.parts (c.add-totals.ensures.grown
          ∙ ap (λ (b : Batch). plus (amounts c.loop.share) (counts_of b.decided.items)) c.read.ensures)
          (c.push_reserved.ensures.items ∙ ap (λ l. l ++ p ∷ []) c.reserve.ensures.items),
    )

pub overflow_add-claims : goal.overflow_add-claims
overflow_add-claims g c =
    omega (
      arith,
      claims-few c.args.bench.now c.args.board.now c.args.window.now
          (view c.args.pass) c.args.share c.args.claims c.loop.pass c.loop.share c.loop.claims c.loop.published.items
          c.loop.invariant.2,
      c.requires.claims,
    )

pub push_reserved-requires : goal.push_reserved-requires
push_reserved-requires g c =
    let room = of-ok c.reserve.result (sym c.is_err.ensures.value ∙ c.if-is_err.false) c.reserve.ensures.ok in
    omega (arith, room)
