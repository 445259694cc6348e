use Rattle.std.proofs.Common.{arith}
use Rattle.positions.proofs.NearLaws.{near_rows}
use Rattle.positions.proofs.alternatives.during.Goals as goal

pub put_rows-requires-clause-near : goal.put_rows-requires-clause-near
put_rows-requires-clause-near c =
    near_rows 0 c.rows.result.now c.args.body.now c.rows.ensures.rows c.requires (let p = c.requires.few in omega arith)
