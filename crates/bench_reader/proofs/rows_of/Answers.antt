use Rattle.std.proofs.Common.{sym}
use Rattle.bench_reader.proofs.rows_of.Goals as goal

pub loop-init : goal.loop-init
loop-init c =
    let bound = c.in-Ok-bind.ensures in
    c.in_ok-window.ensures.of c.args.dump.now c.in-Ok.clocks bound.dump (sym bound.clock)
    c.in-Ok.ensures.ticks bound.rows
