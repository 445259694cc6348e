use Rattle.std.proofs.Common.{arith}
use Rattle.positions.specs.Rows.{lead_data}
use Rattle.positions.specs.Views.{edge_data, change_data}
use Rattle.positions.proofs.RowLaws.{edges-flat-view, long_on}
use Rattle.positions.proofs.lead.Lead.put_row.Goals as goal

pub returns-in_err-put-clause-err : goal.returns-in_err-put-clause-err
returns-in_err-put-clause-err c =
    long_on _ _ _ _ c.from_residual.ensures.1 c.in_err-put.ensures.err
    (edges-flat-view
    (lead_data c.args.self.now.fuses (change_data c.args.self.now.change) c.args.self.now.by c.args.second.now)
    edge_data
    c.args.row.now c.loop-edge.edge-index c.edge-item.result c.args.draft.now c.loop-edge.draft _ c.loop-edge-test.true
    c.loop-edge.invariant
    c.edge-item.is (omega arith))
