use Rattle.std.proofs.Common.{None, false}
use Rattle.crossbeam_queue.specs.Passes.{view}
use Rattle.workers.specs.Works.{Works}
use Rattle.workers.proofs.worker.work.Given as goal

abbrev pub invariant-loop : goal.invariant-loop
invariant-loop g l =
    (goal.iterator-loop g).can_next l.iterator' × (goal.iterator-loop g).is_finite l.iterator'
    × Works l.bench l.board l.window
    (view l.fn.pass) l.fn.share l.fn.claims record
    { pass = l.pass; share = l.share; claims = l.claims; published = l.published; kept = None; short = false }
