use Rattle.std.proofs.Common.{◌+◌, ap, ◌∙◌, length-append, ◌∷◌, []}
use Rattle.expressions.proofs.RowLaws.{table_grows}
use Rattle.expressions.proofs.counting.count.Goals as goal

pub loop-tick-preserved : goal.loop-tick-preserved
loop-tick-preserved c =
    let next = rw c.loop-tick.invariant.signals at c.in_ok-row.ensures in
    let table = c.loop-tick.rows.counters in
    record {
      signals = c.loop-tick.invariant.signals;
      long =
          rw c.in_ok-push-2.ensures.ok (length-append table (c.in_ok-row.row.items ∷ [])
          ∙ ap (λ n. n + 1) c.loop-tick.invariant.long);
      counted =
          rw c.in_ok-push-2.ensures.ok
          (table_grows c.args.signals c.args.all.now table c.in_ok-row.row.items c.loop-tick.tick
          c.loop-tick.invariant.long c.loop-tick.invariant.counted next);
    }
