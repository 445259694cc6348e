use Rattle.expressions.proofs.Grown.{longer_compare}
use Rattle.expressions.proofs.chain.comparison_node.Goals as goal

pub returns-in_ok-push-in-Compare : goal.returns-in_ok-push-in-Compare
returns-in_ok-push-in-Compare c =
    longer_compare c.args.left c.in-Compare.kept c.in-Compare.first c.in-Compare.steps c.push.new.self c.args.op
    c.args.right c.in-Compare.is c.requires.left c.requires.right c.in_ok-push-in-Compare.ensures.items
