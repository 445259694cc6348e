use Rattle.expressions.proofs.Grown.{longer_sums}
use Rattle.expressions.proofs.chain.arithmetic_node.Goals as goal

pub returns-in_ok-push-in-Arithmetic : goal.returns-in_ok-push-in-Arithmetic
returns-in_ok-push-in-Arithmetic c =
    longer_sums c.args.left c.in-Arithmetic._width c.in-Arithmetic.first c.in-Arithmetic.steps c.push.new.self
    c.args.op c.args.right c.args.width c.in-Arithmetic.is c.requires.left c.requires.right c.requires.kept
    c.in_ok-push-in-Arithmetic.ensures.items
