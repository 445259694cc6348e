use Rattle.attempt_pool.proofs.FilledLaws.{readable, item_shown}
use Rattle.attempt_pool.proofs.nodes.Nodes.item.Goals as goal

pub get-requires : goal.get-requires
get-requires g c = readable _ _ c.self.invariant.0 _ c.self.view_is _ c.requires

pub returns : goal.returns
returns g c =
    item_shown _ _ c.self.invariant.0 _ c.self.view_is _ c.requires _ c.get.ensures
