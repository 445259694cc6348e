use Rattle.std.proofs.Common.{map, ap, arith}
use Rattle.positions.specs.Rows.{joint_row, rows_size}
use Rattle.positions.specs.Views.{edge_data, edges_data, rows_data}
use Rattle.positions.proofs.RowLaws.{rows-flat-view, long_on}
use Rattle.positions.proofs.pairing.Pairing.put_all.Goals as goal

pub returns-in_err-put_rows-clause-err : goal.returns-in_err-put_rows-clause-err
returns-in_err-put_rows-clause-err c =
    let same =
    ap (λ es. rows_size
    (map (joint_row c.args.self.now.alone c.args.self.now.first c.args.self.now.second (map edge_data es))
    (rows_data c.args.seconds.now))) c.deref.ensures.value in
    long_on _ _ _ _ c.from_residual.ensures.1 c.in_err-put_rows.ensures.err
    (rows-flat-view
    (λ es. map (joint_row c.args.self.now.alone c.args.self.now.first c.args.self.now.second es)
    (rows_data c.args.seconds.now)) edges_data
    c.args.firsts.now c.loop-edges.edges-index c.edges-item.result c.args.draft.now c.loop-edges.draft _
    c.loop-edges-test.true c.requires.begun
    c.loop-edges.invariant c.edges-item.is (omega (arith, same)))
