use Rattle.std.proofs.Common.{ℕ, ◌≡◌, ◌+◌, ◌∙◌, ap, length, arith}
use Rattle.positions.specs.Rows.{ChangeData, TableData, change_all, moved, link_data}
use Rattle.positions.specs.Views.{change_data, rows_data}
use Rattle.positions.proofs.RowLaws.{long_on}
use Rattle.positions.proofs.NearLaws.{near_rows}
use Rattle.positions.proofs.LinkLaws.{leads, first_rows, between_rows, second_rows, firsts-made}
use Rattle.positions.proofs.PartLaws.{changed-made, between-within, second-within, all-made}
use Rattle.positions.proofs.link.link.Goals as goal

pub put_rows-requires-clause-near : goal.put_rows-requires-clause-near
put_rows-requires-clause-near c =
    let by = ap (λ (x : ChangeData). x.by) c.in_ok-leading_change.ensures in
    near_rows c.in_ok-leading_change.field-0.by c.rows.result.now c.args.first.now c.rows.ensures.rows
    c.requires.first_placed
    (let few = c.requires.first_placed.few in omega (arith, by))

pub put_rows-requires-2-clause-near : goal.put_rows-requires-2-clause-near
put_rows-requires-2-clause-near c =
    let by = ap (λ (x : ChangeData). x.by) c.in_ok-change.ensures in
    near_rows c.in_ok-change.change.by c.rows-2.result.now c.args.between.now c.rows-2.ensures.rows
    c.requires.between_placed
    (let few = c.requires.few in omega (arith, by))

pub put_rows-requires-3-clause-near : goal.put_rows-requires-3-clause-near
put_rows-requires-3-clause-near c =
    let by = ap (λ (x : ChangeData). x.by) c.by_places.ensures in
    near_rows c.by_places.result.by c.rows-3.result.now c.args.second.now c.rows-3.ensures.rows c.requires.second_placed
    (let few = c.requires.few in omega (arith, by, c.len.ensures, c.len-2.ensures))

pub returns-in_err-put_rows-2-clause-err : goal.returns-in_err-put_rows-2-clause-err
returns-in_err-put_rows-2-clause-err c =
    let t : TableData = c.args.first.now in
    let g : TableData = c.args.between.now in
    let u : TableData = c.args.second.now in
    let by : ℕ = c.len.result + c.len-2.result in
    let past : by ≡ length t.rows + length g.rows = omega (arith, c.len.ensures, c.len-2.ensures) in
    long_on _ _ _ _ c.from_residual-in_err-put_rows-2.ensures.1 c.in_err-put_rows-2.ensures.err
    (between-within (first_rows c.args.fuses c.args.follows t g u) (between_rows c.args.fuses c.args.follows t g u)
    (second_rows c.args.fuses c.args.follows t g u) c.new-draft.result c.put_rows.new.draft
    (leads c.args.fuses c.args.follows t g u (change_data c.in_ok-leading_change.field-0) by
    (rows_data c.rows.result.now))
    c.new-draft.ensures c.in_ok-put_rows.ensures.ok
    (firsts-made c.args.fuses c.args.follows t g u (change_data c.in_ok-leading_change.field-0) by
    (rows_data c.rows.result.now) c.in_ok-leading_change.ensures past c.rows.ensures.rows)
    (change_all (change_data c.in_ok-change.change) (rows_data c.rows-2.result.now))
    (changed-made _ _ _ _ c.in_ok-change.ensures c.rows-2.ensures.rows))

pub returns-in_err-put_rows-3-clause-err : goal.returns-in_err-put_rows-3-clause-err
returns-in_err-put_rows-3-clause-err c =
    let t : TableData = c.args.first.now in
    let g : TableData = c.args.between.now in
    let u : TableData = c.args.second.now in
    let by : ℕ = c.len.result + c.len-2.result in
    let past : by ≡ length t.rows + length g.rows = omega (arith, c.len.ensures, c.len-2.ensures) in
    long_on _ _ _ _ c.from_residual-in_err-put_rows-3.ensures.1 c.in_err-put_rows-3.ensures.err
    (second-within (first_rows c.args.fuses c.args.follows t g u) (between_rows c.args.fuses c.args.follows t g u)
    (second_rows c.args.fuses c.args.follows t g u) c.new-draft.result c.put_rows.new.draft
    (leads c.args.fuses c.args.follows t g u (change_data c.in_ok-leading_change.field-0) by
    (rows_data c.rows.result.now))
    c.new-draft.ensures c.in_ok-put_rows.ensures.ok
    (firsts-made c.args.fuses c.args.follows t g u (change_data c.in_ok-leading_change.field-0) by
    (rows_data c.rows.result.now) c.in_ok-leading_change.ensures past c.rows.ensures.rows)
    c.put_rows-2.new.self
    (change_all (change_data c.in_ok-change.change) (rows_data c.rows-2.result.now))
    c.in_ok-put_rows-2.ensures.ok
    (changed-made _ _ _ _ c.in_ok-change.ensures c.rows-2.ensures.rows)
    (change_all (change_data c.by_places.result) (rows_data c.rows-3.result.now))
    (changed-made _ _ _ _ (c.by_places.ensures ∙ ap moved past) c.rows-3.ensures.rows))

pub returns-clause-ok : goal.returns-clause-ok
returns-clause-ok c =
    let t : TableData = c.args.first.now in
    let g : TableData = c.args.between.now in
    let u : TableData = c.args.second.now in
    let by : ℕ = c.len.result + c.len-2.result in
    let past : by ≡ length t.rows + length g.rows = omega (arith, c.len.ensures, c.len-2.ensures) in
    let rows =
    all-made (first_rows c.args.fuses c.args.follows t g u) (between_rows c.args.fuses c.args.follows t g u)
    (second_rows c.args.fuses c.args.follows t g u) c.new-draft.result c.put_rows.new.draft
    (leads c.args.fuses c.args.follows t g u (change_data c.in_ok-leading_change.field-0) by
    (rows_data c.rows.result.now))
    c.new-draft.ensures c.in_ok-put_rows.ensures.ok
    (firsts-made c.args.fuses c.args.follows t g u (change_data c.in_ok-leading_change.field-0) by
    (rows_data c.rows.result.now) c.in_ok-leading_change.ensures past c.rows.ensures.rows)
    c.put_rows-2.new.self
    (change_all (change_data c.in_ok-change.change) (rows_data c.rows-2.result.now))
    c.in_ok-put_rows-2.ensures.ok
    (changed-made _ _ _ _ c.in_ok-change.ensures c.rows-2.ensures.rows)
    c.put_rows-3.new.self
    (change_all (change_data c.by_places.result) (rows_data c.rows-3.result.now))
    c.in_ok-put_rows-3.ensures.ok
    (changed-made _ _ _ _ (c.by_places.ensures ∙ ap moved past) c.rows-3.ensures.rows) in
    let all : TableData = link_data c.args.fuses c.args.follows t g u in
    c.table.ensures.made
    ∙ ap (λ xs. record { rows = xs; starts = c.in_ok-starts.starts.items; empty = c.admits_empty-empty.result }) rows
    ∙ ap (λ xs. record { rows = all.rows; starts = xs; empty = c.admits_empty-empty.result }) c.in_ok-starts.ensures
    ∙ ap (λ b. record { rows = all.rows; starts = all.starts; empty = b }) c.admits_empty-empty.ensures
