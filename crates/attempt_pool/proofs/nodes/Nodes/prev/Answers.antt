use Rattle.attempt_pool.proofs.FilledLaws.{readable, prev_shown}
use Rattle.attempt_pool.proofs.nodes.Nodes.prev.Goals as goal

pub get-requires : goal.get-requires
get-requires g c = readable _ _ c.self.invariant.0 _ c.self.view_is _ c.requires

pub returns : goal.returns
returns g c =
    prev_shown _ _ c.self.invariant.0 _ c.self.view_is _ c.requires _ c.get.ensures
