use Rattle.std.proofs.Common.{◌∙◌, sym}
use Rattle.bytecode.proofs.TextLaws.{text-utf8}
use Rattle.bytecode.proofs.text.text_at.Goals as goal

pub unreachable-requires : goal.unreachable-requires
unreachable-requires c =
    c.in_default.ensures.cases.0
    (text-utf8 c.args.dots c.in-Ok.read.0.now (sym c.is_text.ensures ∙ c.if-not-is_text.false))
