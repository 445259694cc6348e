use Rattle.std.proofs.Common.{◌≡◌, ◌++◌, ◌∷◌, [], ap, ◌∙◌, sym, map, List, append_assoc, rules}
use Rattle.std.proofs.lemmas.List.{map-append}
use Rattle.std.specs.Vec.Iter.{into_iter_items}
use Rattle.workers_core.specs.declared.monitor.Monitor.{Monitor}
use Rattle.workers.specs.Runs.{upto}
use Rattle.workers.proofs.Orders.{next_number}
use Rattle.workers.specs.Taking.{monitor_of}
use Rattle.workers.proofs.opening.numbered.Goals as goal

pub loop-monitor-preserved : goal.loop-monitor-preserved
loop-monitor-preserved c =
    let was = c.loop-monitor.invariant in let pushed = c.push_reserved.ensures.items in
    let m : Monitor = c.in-Some.monitor in
    let rest = into_iter_items c.next.new.self in
    let grown : map monitor_of c.push_reserved.new.self.items ≡ map monitor_of c.loop-monitor.all.items ++ m ∷ [] =
    ap (map monitor_of) pushed ∙ map-append monitor_of c.loop-monitor.all.items _
    ∙ ap (λ (x : Monitor). map monitor_of c.loop-monitor.all.items ++ x ∷ []) c.in-Ok.ensures.ok in (
      next_number _ _ _ _ pushed was.0 c.len-number.ensures ∙ ap (upto 0) (sym c.push_reserved.ensures.len),
      ap (λ (l : List Monitor). l ++ rest) grown ∙ (append_assoc (map monitor_of c.loop-monitor.all.items) (m ∷ []) rest
          ∙ (ap (λ (l : List Monitor). map monitor_of c.loop-monitor.all.items ++ l) (sym c.in-Some.ensures.steps.0)
          ∙ was.1)),
      search rules,
      search rules,
    )
