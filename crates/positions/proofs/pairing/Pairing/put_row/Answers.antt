use Rattle.std.proofs.Common.{map, arith}
use Rattle.positions.specs.Rows.{joint_data}
use Rattle.positions.specs.Views.{edge_data}
use Rattle.positions.proofs.RowLaws.{edges-flat-view, long_on}
use Rattle.positions.proofs.pairing.Pairing.put_row.Goals as goal

pub returns-in_err-put_edge-clause-err : goal.returns-in_err-put_edge-clause-err
returns-in_err-put_edge-clause-err c =
    long_on _ _ _ _ c.from_residual.ensures.1 c.in_err-put_edge.ensures.err
    (edges-flat-view
    (λ e. map (joint_data c.args.self.now.alone c.args.self.now.first c.args.self.now.second e)
    (map edge_data c.args.row.now))
    edge_data
    c.args.edges.now c.loop-edge.edge-index c.edge-item.result c.args.draft.now c.loop-edge.draft _
    c.loop-edge-test.true c.loop-edge.invariant
    c.edge-item.is (omega arith))
