use Rattle.cli_bytecode.specs.Limits.{limits_text}
use Rattle.report_lines.proofs.Pieces.{and_then, from_empty}
use Rattle.cli_bytecode.proofs.limits_text.text_of.Goals as goal

pub returns : goal.returns
unfolding limits_text
returns c =
    let two = and_then c.in_ok-push_field.ensures c.in_ok-push_field-2.ensures in
    let three = and_then two c.in_ok-push_field-3.ensures in
    let four = and_then three c.in_ok-push_field-4.ensures in
    let five = and_then four c.in_ok-push_field-5.ensures in
    (from_empty c.new-text.ensures.bytes (and_then five c.in_ok-push_end.ensures)).is
