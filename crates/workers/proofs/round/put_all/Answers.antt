use Rattle.std.proofs.Common.{◌≤◌, ◌++◌, ◌∷◌, ap, ◌∙◌, sym, subst, vec_len}
use Rattle.std.proofs.lemmas.List.Elements.{All-same}
use Rattle.workers_bench.specs.Monitors.{IsMonitorAt}
use Rattle.std.specs.Vec.Iter.{into_iter_items}
use Rattle.workers_bench.specs.declared.passes.Hand.{Hand}
use Rattle.workers_bench.specs.declared.numbered.Numbered.{Numbered}
use Rattle.workers_bench.specs.Hands.{end_after, NumbersRise}
use Rattle.workers_bench.proofs.Keeps.{next_rises}
use Rattle.workers.proofs.Orders.{rises_upto, middle}
use Rattle.workers.proofs.round.put_all.Goals as goal

pub put-back-requires-clause-order : goal.put-back-requires-clause-order
put-back-requires-clause-order g c =
    let was = c.loop-monitor.invariant in let m : Numbered = c.in-Some.monitor in
    let steps = c.in-Some.ensures.steps in
    let above = next_rises c.args.monitors.items c.loop-monitor.yielded (into_iter_items c.next.new.self) m
    (subst NumbersRise (sym c.requires.order) (rises_upto 0 (vec_len c.args.monitors)))
    (ap (λ l. c.loop-monitor.yielded ++ l) (sym steps.0) ∙ was.2) in
    subst (λ (v : Hand). end_after 0 v.put ≤ m.number) (sym was.1) above

pub put-back-requires-clause-job : goal.put-back-requires-clause-job
put-back-requires-clause-job g c =
    let P = IsMonitorAt c.args.bench.now.job.now c.args.bench.now.at in
    let m : Numbered = c.in-Some.monitor in
    let rest = into_iter_items c.next.new.self in
    let same = ap (λ l. c.loop-monitor.yielded ++ l) (sym c.in-Some.ensures.steps.0) ∙ c.loop-monitor.invariant.2 in
    middle P c.loop-monitor.yielded rest m
    (All-same P (c.loop-monitor.yielded ++ m ∷ rest) c.args.monitors.items same c.requires.job)
