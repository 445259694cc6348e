use Rattle.positions.specs.Rows.{joint_data}
use Rattle.positions.specs.Views.{edge_data}
use Rattle.positions.proofs.RowLaws.{edges-next, long_on}
use Rattle.positions.proofs.pairing.Pairing.put_edge.Goals as goal

pub returns-in_err-put-clause-err : goal.returns-in_err-put-clause-err
returns-in_err-put-clause-err c =
    long_on _ _ _ _ c.from_residual-in_err-put.ensures.1 c.in_err-put.ensures.err
    (edges-next (joint_data c.args.self.now.alone c.args.self.now.first c.args.self.now.second
    (edge_data c.args.edge.now)) edge_data
    c.args.row.now
    c.loop-other.other-index c.other-item.result
    c.args.draft.now c.loop-other.draft (edge_data c.in_ok-paired_edge.field-0) c.loop-other-test.true
    c.loop-other.invariant
    c.other-item.is
    c.in_ok-paired_edge.ensures)
