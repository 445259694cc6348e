use Rattle.attempt_pool.proofs.FilledLaws.{readable, still_filled, prev_written}
use Rattle.attempt_pool.proofs.nodes.Nodes.set_prev.Goals as goal

pub get_mut-requires : goal.get_mut-requires
get_mut-requires g c = readable _ _ c.self.invariant.0 _ c.self.view_is _ c.requires

pub invariant_of-self : goal.invariant_of-self
invariant_of-self g c = let h = c.self.invariant in (
  still_filled _ _ h.0 _ c.self.view_is _ c.requires _,
  h.1,
  h.2,
  h.3,
)

pub returns : goal.returns
returns g c = prev_written _ _ c.self.invariant.0 _ c.self.view_is _ c.requires _
    c.get_mut.ensures.value c.args.prev
