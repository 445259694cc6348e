use Rattle.positions.specs.Rows.{changed}
use Rattle.positions.specs.Views.{edge_data, change_data}
use Rattle.positions.proofs.RowLaws.{edges-next, long_on}
use Rattle.positions.proofs.draft.Draft.put_changed.Goals as goal

pub returns-in_err-put-clause-err : goal.returns-in_err-put-clause-err
returns-in_err-put-clause-err c =
    long_on _ _ _ _ c.from_residual-in_err-put.ensures.1 c.in_err-put.ensures.err
    (edges-next (changed (change_data c.args.change.now)) edge_data c.args.row.now c.loop-edge.edge-index
    c.edge-item.result
    c.args.self.now c.loop-edge.self (edge_data c.in_ok-changed_edge.field-0) c.loop-edge-test.true
    c.loop-edge.invariant
    c.edge-item.is
    c.in_ok-changed_edge.ensures)
