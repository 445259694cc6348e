use Rattle.report_explained.proofs.ExpressionLaws.{concat_level}
use Rattle.report_explained.proofs.expression_text.needs_brackets_after_sign.Goals as goal

pub returns-in-Concat : goal.returns-in-Concat
returns-in-Concat c =
    concat_level c.args.node.now c.in-Concat.field-0 c.in-Concat.field-1 c.in-Concat.parts c.is_empty.result
    c.in-Concat.is c.is_empty.ensures
