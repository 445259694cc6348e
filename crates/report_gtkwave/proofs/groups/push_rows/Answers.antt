use Rattle.std.proofs.Common.{◌≡◌, [], ℕ, List, length, map, sym, subst, arith, append-nil}
use Rattle.report_explained.specs.declared.sheet.SheetRow.{SheetRow}
use Rattle.report_forms.specs.Grown.{Grows}
use Rattle.report_forms.proofs.PieceLaws.{piece_more, pieces_all}
use Rattle.report_gtkwave.specs.Views.{wave_data}
use Rattle.report_gtkwave.specs.Saves.{row_text}
use Rattle.report_gtkwave.proofs.groups.push_rows.Goals as goal

pub loop-row-init : goal.loop-row-init
loop-row-init c = record { is = sym (append-nil c.args.out.now.items) }

pub loop-row-preserved : goal.loop-row-preserved
loop-row-preserved c =
    let ws = map wave_data c.args.waves.now in
    let old = c.loop-row.out.items in
    let new = c.push_row.new.out.items in
    let grown =
    subst (λ (x : SheetRow). Grows old new (row_text ws x)) c.row-item.is c.in_ok-push_row.ensures in
    piece_more (row_text ws) c.args.rows.now c.loop-row.row-index c.row-item.result _ _ _ []
    c.loop-row-test.true c.loop-row.invariant grown

pub returns : goal.returns
returns c =
    let ws = map wave_data c.args.waves.now in
    let done : c.loop-row.row-index ≡ length c.args.rows.now = omega arith in
    pieces_all (row_text ws) c.args.rows.now c.loop-row.row-index _ _ [] done c.loop-row.invariant
