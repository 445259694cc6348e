use Rattle.expressions.proofs.Grown.{longer_connect}
use Rattle.expressions.proofs.chain.connection_node.Goals as goal

pub returns-in_ok-push-in-Connect : goal.returns-in_ok-push-in-Connect
returns-in_ok-push-in-Connect c =
    longer_connect c.args.left c.in-Connect.first c.in-Connect.steps c.push.new.self c.args.op c.args.right
    c.in-Connect.is c.requires.left c.requires.right c.in_ok-push-in-Connect.ensures.items
