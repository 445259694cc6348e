use Rattle.attempt_pool.proofs.PoolLaws.{place_within, origin_within, fresh_given, filled_within}
use Rattle.attempt_pool.proofs.PoolLaws.{linked_within, last_place_within, origin_still}
use Rattle.attempt_pool.proofs.PoolLaws.{opened_given}
use Rattle.attempt_pool.proofs.pool.Pool.open.Goals as goal

pub prev-last-requires : goal.prev-last-requires
prev-last-requires g c = origin_within _ _ _ c.self.invariant _ c.self.view_is c.requires

pub next-self-inside-requires : goal.next-self-inside-requires
next-self-inside-requires g c = place_within _ _ _ c.self.invariant _ c.self.view_is c.requires

pub set_item-requires : goal.set_item-requires
set_item-requires g c = place_within _ _ _ c.self.invariant _ c.self.view_is c.requires

pub set_prev-requires : goal.set_prev-requires
set_prev-requires g c = filled_within _ _ _ c.self.invariant _ c.self.view_is c.requires _ _
    c.prev-last.ensures _ c.set_item.ensures

pub set_next-requires : goal.set_next-requires
set_next-requires g c = linked_within _ _ _ c.self.invariant _ c.self.view_is c.requires _ _
    c.prev-last.ensures _ c.set_item.ensures _ c.set_prev.ensures

pub set_next-requires-2 : goal.set_next-requires-2
set_next-requires-2 g c = last_place_within _ _ _ c.self.invariant _ c.self.view_is c.requires _ _
    c.prev-last.ensures _ c.set_item.ensures _ c.set_prev.ensures _ c.set_next.ensures

pub set_prev-requires-2 : goal.set_prev-requires-2
set_prev-requires-2 g c = origin_still _ _ _ c.self.invariant _ c.self.view_is c.requires _ _
    c.prev-last.ensures _ c.set_item.ensures _ c.set_prev.ensures _ c.set_next.ensures _
    c.set_next-2.ensures

pub invariant_of-self : goal.invariant_of-self
invariant_of-self g c =
    (opened_given _ _ _ c.self.invariant _ c.self.view_is c.requires _ _ c.prev-last.ensures _
    c.set_item.ensures _ c.set_prev.ensures _ c.set_next.ensures _ c.set_next-2.ensures _
    c.set_prev-2.ensures _ c.next-self-inside.ensures).0

pub returns-clause-pool : goal.returns-clause-pool
returns-clause-pool g c =
    (opened_given _ _ _ c.self.invariant _ c.self.view_is c.requires _ _ c.prev-last.ensures _
    c.set_item.ensures _ c.set_prev.ensures _ c.set_next.ensures _ c.set_next-2.ensures _
    c.set_prev-2.ensures _ c.next-self-inside.ensures).1

pub returns-clause-fresh : goal.returns-clause-fresh
returns-clause-fresh g c = fresh_given _ _ _ c.self.invariant _ c.self.view_is c.requires
