use Rattle.parser.proofs.ItemSteps.{more-end, more-yes}
use Rattle.parser.proofs.file.more.Goals as goal

pub returns-then-is-clause-token : goal.returns-then-is-clause-token
returns-then-is-clause-token c = more-end _ _ _ c.in-Some.ensures c.if-is.ensures

pub returns-clause-token : goal.returns-clause-token
returns-clause-token c = more-yes _ _ _ c.in-Some.ensures c.if-is.ensures
