use Rattle.std.proofs.Common.{◌≡◌, ◌+◌, ◌^◌, ◌∷◌, [], ap, ◌∙◌, sym, subst, true, All, IfSome, arith}
use Rattle.std.proofs.lemmas.Option.{IfSome_then}
use Rattle.std.specs.Vec.Iter.{into_iter_items}
use Rattle.std.proofs.lemmas.List.Elements.{All-head, All-tail}
use Rattle.cycle_window.specs.Held.{first_in}
use Rattle.workers.specs.declared.worker.Published.{Published}
use Rattle.workers_bench.specs.Monitors.{IsMonitorAt}
use Rattle.workers_bench.specs.Hands.{total, numbers}
use Rattle.workers.specs.Works.{IsOnBoard, IsPublished, published_count}
use Rattle.workers.specs.Runs.{published_numbers}
use Rattle.workers_bench.proofs.Keeps.{all_pushed}
use Rattle.machine_batches.specs.declared.batch.Batch.{Batch}
use Rattle.verdicts.specs.Shares.{amounts, plus, EachAtMost}
use Rattle.verdicts.specs.Counts.{count_of, counts_of}
use Rattle.verdicts.specs.Receipts.{shown_by}
use Rattle.workers.specs.Adding.{is_of_kind, amount_of}
use Rattle.workers.proofs.Added.{same-amount, more-amount, counts-push}
use Rattle.workers.proofs.Placing.{stands-at}
use Rattle.workers.proofs.Running.{on-board-of, fits-one}
use Rattle.workers.proofs.Orders.{published_more}
use Rattle.workers.proofs.round.run_rest.Goals as goal
use Rattle.workers.proofs.round.run_rest.Goals.{After-run_one-monitor}

pub run_one-monitor-requires-clause-stands : goal.run_one-monitor-requires-clause-stands
run_one-monitor-requires-clause-stands g c =
    let P = IsMonitorAt c.args.job.now (first_in c.args.window.now) in
    let all = subst (All P) c.in-Some.ensures.steps.0 c.loop-monitor.invariant.0 in
    let here = All-head P c.in-Some.monitor (into_iter_items c.next.new.self) all in
    stands-at c.args.job.now c.args.window.now (first_in c.args.window.now) c.in-Some.monitor c.requires.window.0
    (omega arith) c.requires.window.1.0 here

pub run_one-monitor-requires-clause-here : goal.run_one-monitor-requires-clause-here
run_one-monitor-requires-clause-here g c =
    let P = IsMonitorAt c.args.job.now (first_in c.args.window.now) in
    let all = subst (All P) c.in-Some.ensures.steps.0 c.loop-monitor.invariant.0 in
    (All-head P c.in-Some.monitor (into_iter_items c.next.new.self) all).now

on_board : (g : _) (c : After-run_one-monitor g)
    → IfSome c.run_one-monitor.result.1
    (IsOnBoard c.args.job.now c.args.window.now c.args.board.now c.run_one-monitor.result.0)
on_board g c =
    let P = IsMonitorAt c.args.job.now (first_in c.args.window.now) in
    let all = subst (All P) c.in-Some.ensures.steps.0 c.loop-monitor.invariant.0 in
    let here = All-head P c.in-Some.monitor (into_iter_items c.next.new.self) all in
    IfSome_then c.run_one-monitor.result.1 c.run_one-monitor.ensures.published
    (λ r done. done c.args.job.now c.requires.window.0 here)

pub line_of_batch-requires-clause-of : goal.line_of_batch-requires-clause-of
line_of_batch-requires-clause-of g c =
    IfSome_then c.run_one-monitor.result.1
    (on_board g (goal.at.line_of_batch-requires-clause-of g c).After-run_one-monitor) (λ r done. done.of_board)

pub line_of_batch-requires-clause-few : goal.line_of_batch-requires-clause-few
line_of_batch-requires-clause-few g c =
    IfSome_then c.run_one-monitor.result.1
    (on_board g (goal.at.line_of_batch-requires-clause-few g c).After-run_one-monitor) (λ r done. done.batch.few)

pub audits_within-requires : goal.audits_within-requires
audits_within-requires g c = let was = c.loop-monitor.invariant in omega (arith, was.3)

pub read-requires : goal.read-requires
read-requires g c =
    let ran = (goal.at.read-requires g c).After-run_one-monitor in
    let same = rw c.in-Some-line_of_batch.is at c.line_of_batch.ensures.same in
    let p : Published = record {
      monitor = c.run_one-monitor.result.0;
      receipt = c.in-Some-line_of_batch.receipt;
      line = c.in-Some-line_of_batch.line;
    } in
    (on-board-of c.run_one-monitor.result.1 p same (on_board g ran)).of_board

pub add-totals-requires-clause-part : goal.add-totals-requires-clause-part
add-totals-requires-clause-part g c = let was =
    c.loop-monitor.invariant in omega (arith, was.3, c.audits_within.ensures.parts)

pub add-totals-requires-clause-fits : goal.add-totals-requires-clause-fits
add-totals-requires-clause-fits g c =
    let ran = (goal.at.add-totals-requires-clause-fits g c).After-run_one-monitor in
    let p : Published = record {
      monitor = c.run_one-monitor.result.0;
      receipt = c.in-Some-line_of_batch.receipt;
      line = c.in-Some-line_of_batch.line;
    } in
    let same = rw c.in-Some-line_of_batch.is at c.line_of_batch.ensures.same in
    let line = rw c.in-Some-line_of_batch.is at c.line_of_batch.ensures.line in
    let done = on-board-of c.run_one-monitor.result.1 p same (on_board g ran) in
    let yes : c.audits_within.result ≡ true = cc c.if-not-audits_within.false in
    subst (λ (b : Batch). EachAtMost
    (plus (amounts c.audits_within.new.share) (counts_of b.decided.items)) 72057594037927936) (sym c.read.ensures)
    (fits-one c.args.job.now c.args.window.now c.args.board.now (amounts c.audits_within.new.share) p
    (subst (λ l. EachAtMost l (2 ^ 55)) (sym c.audits_within.ensures.same) (c.audits_within.ensures.within yes))
    (record { on = done; line = line }))

pub loop-monitor-preserved : goal.loop-monitor-preserved
loop-monitor-preserved g c =
    let was = c.loop-monitor.invariant in let steps = c.in-Some.ensures.steps in
    let P = IsMonitorAt c.args.job.now (first_in c.args.window.now) in
    let all = subst (All P) steps.0 was.0 in
    let m = c.in-Some.monitor in
    let ran = (goal.at.loop-monitor-preserved g c).After-run_one-monitor in
    let p : Published = record {
      monitor = c.run_one-monitor.result.0;
      receipt = c.in-Some-line_of_batch.receipt;
      line = c.in-Some-line_of_batch.line;
    } in
    let same-receipt = rw c.in-Some-line_of_batch.is at c.line_of_batch.ensures.same in
    let line = rw c.in-Some-line_of_batch.is at c.line_of_batch.ensures.line in
    let done = on-board-of c.run_one-monitor.result.1 p same-receipt (on_board g ran) in
    let pushed = c.in_ok-push.ensures.items in (
      All-tail P m (into_iter_items c.next.new.self) all,
      (λ h.
          let grown : total h (published_numbers c.push.new.self.items)
          ≡ total h (published_numbers c.loop-monitor.published.items) + (h p.monitor.number + 0) =
          published_more h _ (p ∷ []) _ pushed in
          let left : total h (numbers (into_iter_items c.loop-monitor.monitor-iterator))
          ≡ h m.number + total h (numbers (into_iter_items c.next.new.self)) =
          ap (λ l. total h (numbers l)) steps.0 in
          let same : h p.monitor.number ≡ h m.number = ap h c.run_one-monitor.ensures.number in
          omega (arith, was.1 h)),
      all_pushed (IsPublished c.args.job.now c.args.window.now c.args.board.now) _ _ p pushed was.2
          (record { on = done; line = line }),
      c.add-totals.ensures.parts ∙ (c.audits_within.ensures.parts ∙ was.3),
      (λ k.
          let one : amount_of k c.audits_within.new.share ≡ amount_of k c.loop-monitor.share =
          same-amount k _ _ c.audits_within.ensures.same in
          let grown : amount_of k c.add-totals.new.share
          ≡ amount_of k c.audits_within.new.share + count_of (is_of_kind k) (shown_by p.receipt).decided.items =
          more-amount k c.audits_within.new.share c.add-totals.new.share (shown_by p.receipt).decided.items
          (c.add-totals.ensures.grown
          ∙ ap (λ (b : Batch). plus (amounts c.audits_within.new.share)
          (counts_of b.decided.items)) c.read.ensures) in
          let more : published_count (is_of_kind k) c.push.new.self.items
          ≡ published_count (is_of_kind k) c.loop-monitor.published.items + count_of (is_of_kind k)
          (shown_by p.receipt).decided.items =
          counts-push (is_of_kind k) c.loop-monitor.published.items c.push.new.self.items p pushed in
          omega (arith, was.4 k)),
    )
