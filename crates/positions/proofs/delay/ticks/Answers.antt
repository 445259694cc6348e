use Rattle.std.proofs.Common.{ap, arith}
use Rattle.positions.specs.Rows.{TableData, repeat_data, rows_size}
use Rattle.positions.proofs.ResultLaws.{never_long}
use Rattle.positions.proofs.SizeLaws.{ticks-short}
use Rattle.positions.proofs.delay.ticks.Goals as goal

pub returns-clause-err : goal.returns-clause-err
returns-clause-err c =
    let same = ap (λ (t : TableData). rows_size (repeat_data t c.args.least c.args.most).rows) c.in_ok-tick.ensures in
    let few = c.requires in
    never_long c.repeat-2.result _ c.repeat-2.ensures.err
    (omega (arith, same, few, ticks-short c.args.least c.args.most))
