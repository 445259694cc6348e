use Rattle.std.proofs.Common.{sym, ◌∙◌}
use Rattle.attempt_pool.proofs.PoolLaws.{slot_within, item_given, never_empty}
use Rattle.attempt_pool.proofs.pool.Pool.get.Goals as goal

pub item-requires : goal.item-requires
item-requires g c = slot_within _ _ _ c.self.invariant _ c.self.view_is _ _ c.slot.view_is
    c.requires

pub unreachable-requires : goal.unreachable-requires
unreachable-requires g c = never_empty _ _ _ c.self.invariant _ c.self.view_is _ _ c.slot.view_is
    c.requires (sym c.item.ensures ∙ c.in-None.is)

pub returns : goal.returns
returns g c = item_given _ _ _ c.self.invariant _ c.self.view_is _ _ c.slot.view_is c.requires
    ∙ sym c.item.ensures ∙ c.in-Some.is
