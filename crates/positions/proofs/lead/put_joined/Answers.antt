use Rattle.positions.specs.Rows.{joined_data}
use Rattle.positions.specs.Views.{edge_data}
use Rattle.positions.proofs.RowLaws.{edges-next, long_on}
use Rattle.positions.proofs.lead.put_joined.Goals as goal

pub returns-in_err-put-clause-err : goal.returns-in_err-put-clause-err
returns-in_err-put-clause-err c =
    long_on _ _ _ _ c.from_residual-in_err-put.ensures.1 c.in_err-put.ensures.err
    (edges-next (joined_data c.args.by (edge_data c.args.edge.now)) edge_data c.args.row.now c.loop-other.other-index
    c.other-item.result
    c.args.draft.now c.loop-other.draft (edge_data c.in_ok-joined_edge.field-0) c.loop-other-test.true
    c.loop-other.invariant
    c.other-item.is
    c.in_ok-joined_edge.ensures)
