use Rattle.std.proofs.Common.{sym}
use Rattle.tests_parts.proofs.dumps.values_in.Goals as goal

pub loop-init : goal.loop-init
loop-init c =
    let bound = c.in_ok-columns.ensures in
    c.in_ok-window.ensures.of c.args.dump.now c.in_ok-clocks.clocks bound.dump (sym bound.clock)
    c.in_ok-clocks.ensures.ticks bound.rows

pub loop-preserved : goal.loop-preserved
loop-preserved c = c.in_ok-push_rows.ensures.of _ _ c.slide.ensures.same
