use Rattle.std.proofs.Common.{◌∙◌, ap, length, arith}
use Rattle.positions.specs.Rows.{ChangeData, change_all, turn_data}
use Rattle.positions.specs.Views.{change_data, rows_data}
use Rattle.positions.proofs.RowLaws.{long_on}
use Rattle.positions.proofs.NearLaws.{near_rows}
use Rattle.positions.proofs.CopyLaws.{rows-copied, rows-within, copy-room}
use Rattle.positions.proofs.repeat.repeat.Goals as goal

pub put_rows-requires-clause-near : goal.put_rows-requires-clause-near
put_rows-requires-clause-near c =
    let by = ap (λ (x : ChangeData). x.by) c.in_ok-change.ensures in
    let room =
    copy-room c.loop-copy.copy c.args.most (length c.args.body.now.rows) c.loop-copy-test.true c.requires.few in
    near_rows c.in_ok-change.change.by c.rows.result.now c.args.body.now c.rows.ensures.rows c.requires.placed
    (omega (arith, by, room))

pub returns-in_err-put_rows-clause-err : goal.returns-in_err-put_rows-clause-err
returns-in_err-put_rows-clause-err c =
    long_on _ _ _ _ c.from_residual-in_err-put_rows.ensures.1 c.in_err-put_rows.ensures.err
    (rows-within (λ k. change_all (turn_data c.args.body.now c.args.least c.args.most k) c.args.body.now.rows)
    c.loop-copy.draft
    (change_all (change_data c.in_ok-change.change) (rows_data c.rows.result.now)) c.loop-copy.copy c.args.most
    (ap (λ x. change_all x (rows_data c.rows.result.now)) c.in_ok-change.ensures
    ∙ ap (change_all (turn_data c.args.body.now c.args.least c.args.most c.loop-copy.copy)) c.rows.ensures.rows)
    c.loop-copy.invariant c.loop-copy-test.true)

pub loop-copy-preserved : goal.loop-copy-preserved
loop-copy-preserved c =
    rows-copied (λ k. change_all (turn_data c.args.body.now c.args.least c.args.most k) c.args.body.now.rows)
    c.loop-copy.draft c.put_rows.new.self
    (change_all (change_data c.in_ok-change.change) (rows_data c.rows.result.now)) c.loop-copy.copy
    c.in_ok-put_rows.ensures.ok
    (ap (λ x. change_all x (rows_data c.rows.result.now)) c.in_ok-change.ensures
    ∙ ap (change_all (turn_data c.args.body.now c.args.least c.args.most c.loop-copy.copy)) c.rows.ensures.rows)
    c.loop-copy.invariant
