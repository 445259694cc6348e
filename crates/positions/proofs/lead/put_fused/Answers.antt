use Rattle.std.proofs.Common.{ℕ, get_or, ap, map, length, arith}
use Rattle.positions.specs.Rows.{joined_data, edges_at, edges_size}
use Rattle.positions.specs.Views.{edge_data}
use Rattle.positions.proofs.NearLaws.{near_row_at}
use Rattle.positions.proofs.RowLaws.{edges-flat, long_on}
use Rattle.positions.proofs.lead.put_fused.Goals as goal

pub put_joined-requires : goal.put_joined-requires
put_joined-requires c =
    near_row_at c.args.by _ c.row.result.now c.args.second.now c.row.ensures c.requires.placed
    (let few = c.requires.few in omega arith)

pub returns-in_err-put_joined-clause-err : goal.returns-in_err-put_joined-clause-err
returns-in_err-put_joined-clause-err c =
    let position : ℕ = get_or c.starts-position-items.result.now c.loop-position.position-index 0 in
    let same = ap (λ es. edges_size (map (joined_data c.args.by (edge_data c.args.edge.now)) es)) c.row.ensures in
    long_on _ _ _ _ c.from_residual.ensures.1 c.in_err-put_joined.ensures.err
    (edges-flat (λ q. map (joined_data c.args.by (edge_data c.args.edge.now)) (edges_at c.args.second.now.rows q))
    c.args.second.now.starts
    c.loop-position.position-index position 0 c.args.draft.now c.loop-position.draft _
    (let t = c.loop-position-test.true in let e = ap length c.starts-position-items.ensures in omega (arith, e, t))
    c.loop-position.invariant (ap (λ xs. get_or xs c.loop-position.position-index 0) c.starts-position-items.ensures)
    (omega (arith, same)))
