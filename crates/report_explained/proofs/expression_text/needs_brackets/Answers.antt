use Rattle.std.proofs.Common.{arith}
use Rattle.report_explained.proofs.ExpressionLaws.{concat_level}
use Rattle.report_explained.proofs.expression_text.needs_brackets.Goals as goal

pub returns-in-Concat : goal.returns-in-Concat
returns-in-Concat c = λ some.
    let tight =
    concat_level c.args.node.now c.in-Concat.field-0 c.in-Concat.field-1 c.in-Concat.parts c.is_empty.result
    c.in-Concat.is c.is_empty.ensures some in
    omega (arith, tight)
