use Rattle.expressions.proofs.Grown.{longer_concat}
use Rattle.expressions.proofs.chain.concat_node.Goals as goal

pub returns-in_ok-push-in-Concat : goal.returns-in_ok-push-in-Concat
returns-in_ok-push-in-Concat c =
    longer_concat c.args.left c.in-Concat._width c.in-Concat.first c.in-Concat.parts c.push.new.self c.args.right
    c.args.width c.in-Concat.is c.requires.left c.requires.right c.requires.kept c.in_ok-push-in-Concat.ensures.items
