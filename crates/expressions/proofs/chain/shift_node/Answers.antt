use Rattle.expressions.proofs.Grown.{longer_shifts}
use Rattle.expressions.proofs.chain.shift_node.Goals as goal

pub returns-in_ok-push-in-Shift : goal.returns-in_ok-push-in-Shift
returns-in_ok-push-in-Shift c =
    longer_shifts c.args.left c.in-Shift._width c.in-Shift.first c.in-Shift.steps c.push.new.self c.args.op
    c.args.right c.args.width c.in-Shift.is c.requires.left c.requires.right c.requires.kept
    c.in_ok-push-in-Shift.ensures.items
