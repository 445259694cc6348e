use Rattle.std.proofs.Common.{arith, ap}
use Rattle.positions.specs.Rows.{ChangeData}
use Rattle.positions.proofs.NearLaws.{near_rows}
use Rattle.positions.proofs.alternatives.either.Goals as goal

pub put_rows-requires-clause-near : goal.put_rows-requires-clause-near
put_rows-requires-clause-near c =
    let by = ap (λ (x : ChangeData). x.by) c.by_places.ensures in
    near_rows c.by_places.result.by c.rows.result.now c.args.first.now c.rows.ensures.rows c.requires.first_placed
    (let few = c.requires.few in omega (arith, by))

pub put_rows-requires-2-clause-near : goal.put_rows-requires-2-clause-near
put_rows-requires-2-clause-near c =
    let by = ap (λ (x : ChangeData). x.by) c.by_places-2.ensures in
    near_rows c.by_places-2.result.by c.rows-2.result.now c.args.second.now c.rows-2.ensures.rows
    c.requires.second_placed
    (let few = c.requires.few in omega (arith, by, c.len.ensures))
