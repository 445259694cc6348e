use Rattle.std.proofs.Common.{subst, sym}
use Rattle.cycle_window.specs.Held.{first_in, end_in}
use Rattle.workers_bench.specs.declared.numbered.Numbered.{Numbered}
use Rattle.workers_bench.specs.Monitors.{IsMonitorAt}
use Rattle.workers.specs.Works.{IsBatch}
use Rattle.workers.proofs.worker.run_one.Goals as goal

pub returns-in-Err-clause-stands : goal.returns-in-Err-clause-stands
returns-in-Err-clause-stands g c = λ j h at.
    let x : Numbered = c.pass_through.new.given in
    let new : IsMonitorAt j (first_in c.args.window.now) x = c.in-Err.ensures.refused j
    (first_in c.args.window.now) at in
    subst (λ k. IsMonitorAt j k x) (sym new.now) new

pub returns-in-Ok-publish-clause-published : goal.returns-in-Ok-publish-clause-published
returns-in-Ok-publish-clause-published g c = λ j h at.
    let x : Numbered = c.pass_through.new.given in
    let r = c.in-Ok.ensures.through j h at in
    record {
      at_end = r.0;
      of_board = c.in-Ok-publish.ensures.of_board;
      batch = subst (IsBatch j (first_in c.args.window.now) (end_in c.args.window.now) x)
          (sym c.in-Ok-publish.ensures.batch) r.1;
    }

pub returns-clause-stands : goal.returns-clause-stands
returns-clause-stands g c = λ j h at.
    let x : Numbered = c.pass_through.new.given in
    let r = c.in-Ok.ensures.through j h at in
    subst (λ k. IsMonitorAt j k x) (sym r.0.now) r.0

pub returns-in-Ok-publish-clause-stands : goal.returns-in-Ok-publish-clause-stands
returns-in-Ok-publish-clause-stands g c = λ j h at.
    let x : Numbered = c.pass_through.new.given in
    let r = c.in-Ok.ensures.through j h at in
    subst (λ k. IsMonitorAt j k x) (sym r.0.now) r.0
