use Rattle.std.proofs.Common.{ℕ, ◌+◌, ◌≤◌, List, map, ap, arith}
use Rattle.positions.specs.Tables.{Edge}
use Rattle.positions.specs.Rows.{joint_row, draft_size, edges_size, rows_size}
use Rattle.positions.specs.Views.{edge_data, edges_data, rows_data}
use Rattle.positions.proofs.RowLaws.{rows-next, with_edges-size, long_on}
use Rattle.positions.proofs.pairing.Pairing.put_rows.Goals as goal

pub returns-in_err-put_row-clause-err : goal.returns-in_err-put_row-clause-err
returns-in_err-put_row-clause-err c =
    let f : List (Edge ℕ) → List (Edge ℕ) =
    joint_row c.args.self.now.alone c.args.self.now.first c.args.self.now.second (map edge_data c.args.edges.now) in
    let same = ap (λ es. edges_size (f (map edge_data es))) c.deref.ensures.value in
    long_on _ _ _ _ c.from_residual.ensures.1 c.in_err-put_row.ensures.err
    (rows-next f edges_data c.args.rows.now c.loop-row.row-index c.row-item.result
    c.args.draft.now c.loop-row.draft _ c.loop-row-test.true c.requires.begun c.loop-row.invariant c.row-item.is
    (omega (arith, same)))

pub returns-in_err-close-clause-err : goal.returns-in_err-close-clause-err
returns-in_err-close-clause-err c =
    let f : List (Edge ℕ) → List (Edge ℕ) =
    joint_row c.args.self.now.alone c.args.self.now.first c.args.self.now.second (map edge_data c.args.edges.now) in
    let es : List (Edge ℕ) = f (map edge_data c.deref.result.now) in
    let same = ap (λ xs. edges_size (f (map edge_data xs))) c.deref.ensures.value in
    let grown = with_edges-size c.loop-row.draft c.put_row.new.draft es c.in_ok-put_row.ensures.ok in
    let within : draft_size c.loop-row.draft + (edges_size es + 1) ≤ draft_size c.args.draft.now
    + rows_size (map f (rows_data c.args.rows.now)) =
    rows-next f edges_data c.args.rows.now c.loop-row.row-index c.row-item.result
    c.args.draft.now c.loop-row.draft (edges_size es + 1) c.loop-row-test.true c.requires.begun c.loop-row.invariant
    c.row-item.is
    (omega (arith, same)) in
    long_on _ _ _ _ c.from_residual-in_err-close.ensures.1 c.in_err-close.ensures.err (omega (arith, grown, within))
