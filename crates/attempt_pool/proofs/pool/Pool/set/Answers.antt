use Rattle.attempt_pool.proofs.PoolLaws.{slot_within, reset_given}
use Rattle.attempt_pool.proofs.pool.Pool.set.Goals as goal

pub set_item-requires : goal.set_item-requires
set_item-requires g c = slot_within _ _ _ c.self.invariant _ c.self.view_is _ _ c.slot.view_is
    c.requires

pub invariant_of-self : goal.invariant_of-self
invariant_of-self g c =
    (reset_given _ _ _ c.self.invariant _ c.self.view_is _ _ c.slot.view_is c.requires _ _
    c.set_item.ensures).0

pub returns : goal.returns
returns g c = (reset_given _ _ _ c.self.invariant _ c.self.view_is _ _ c.slot.view_is c.requires _
    _ c.set_item.ensures).1
