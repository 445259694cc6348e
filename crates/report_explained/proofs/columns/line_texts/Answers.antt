use Rattle.std.proofs.Common.{String, Global, string_bytes, subst}
use Rattle.report_explained.specs.declared.columns.Line.{Line}
use Rattle.report_explained.specs.SheetText.{line_data, IsLineText}
use Rattle.report_explained.proofs.ZipLaws.{zip_more}
use Rattle.report_explained.proofs.columns.line_texts.Goals as goal

pub loop-line-preserved : goal.loop-line-preserved
loop-line-preserved c =
    let made = c.in_ok-line_text.field-0 in
    zip_more (λ (line : Line) (text : String Global). IsLineText (line_data line) (string_bytes text)) c.args.lines.now
    c.loop-line.line-index c.line-item.result made c.loop-line.texts.items c.push.new.self.items c.loop-line-test.true
    c.in_ok-push.ensures.items
    (subst (λ (line : Line). IsLineText (line_data line) (string_bytes made)) c.line-item.is c.in_ok-line_text.ensures)
    c.loop-line.invariant
