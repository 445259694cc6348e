use Rattle.std.proofs.Common.{ℕ, ◌+◌, ◌≤◌, List, map, ap, arith}
use Rattle.positions.specs.Tables.{Edge}
use Rattle.positions.specs.Rows.{changed, draft_size, edges_size, rows_size, change_all}
use Rattle.positions.specs.Views.{edge_data, change_data, edges_data, rows_data}
use Rattle.positions.proofs.RowLaws.{rows-next, with_edges-size, long_on}
use Rattle.positions.proofs.draft.Draft.put_rows.Goals as goal

pub returns-in_err-put_changed-clause-err : goal.returns-in_err-put_changed-clause-err
returns-in_err-put_changed-clause-err c =
    let same =
    ap (λ es. edges_size (map (changed (change_data c.args.change.now)) (map edge_data es))) c.deref.ensures.value
    in
    long_on _ _ _ _ c.from_residual.ensures.1 c.in_err-put_changed.ensures.err
    (rows-next (map (changed (change_data c.args.change.now))) edges_data c.args.rows.now c.loop-row.row-index
    c.row-item.result
    c.args.self.now c.loop-row.self _ c.loop-row-test.true c.requires.begun c.loop-row.invariant c.row-item.is
    (omega (arith, same)))

pub returns-in_err-close-clause-err : goal.returns-in_err-close-clause-err
returns-in_err-close-clause-err c =
    let es : List (Edge ℕ) = map (changed (change_data c.args.change.now)) (map edge_data c.deref.result.now) in
    let same =
    ap (λ xs. edges_size (map (changed (change_data c.args.change.now)) (map edge_data xs))) c.deref.ensures.value
    in
    let grown = with_edges-size c.loop-row.self c.put_changed.new.self es c.in_ok-put_changed.ensures.ok in
    let within : draft_size c.loop-row.self + (edges_size es + 1) ≤ draft_size c.args.self.now
    + rows_size (change_all (change_data c.args.change.now) (rows_data c.args.rows.now)) =
    rows-next (map (changed (change_data c.args.change.now))) edges_data c.args.rows.now c.loop-row.row-index
    c.row-item.result
    c.args.self.now c.loop-row.self (edges_size es + 1) c.loop-row-test.true c.requires.begun c.loop-row.invariant
    c.row-item.is
    (omega (arith, same)) in
    long_on _ _ _ _ c.from_residual-in_err-close.ensures.1 c.in_err-close.ensures.err (omega (arith, grown, within))
