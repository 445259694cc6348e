use Rattle.std.proofs.Common.{arith}
use Rattle.assertions.proofs.ReadLaws.{starts, ends, goes-on, fewer-to-do, found-here, found-to-do}
use Rattle.assertions.proofs.read.names_through.Goals as goal

pub counters-init : goal.counters-init
counters-init c =
    starts c.args.first.items c.args.counters.now c.in_ok-done.done.items c.in_ok-done.ensures.long
    c.in_ok-done.ensures.none

pub returns-in_default : goal.returns-in_default
returns-in_default c =
    ends c.args.first.items c.args.counters.now c.counters.names.items c.counters.done.items c.counters.from
    c.counters.invariant
    (rw (c.as_slice.ensures.value, c.as_slice-in-counters.ensures.value) at c.in_default.ensures)

pub index_mut-requires : goal.index_mut-requires
index_mut-requires c =
    let next = rw (c.as_slice.ensures.value, c.as_slice-in-counters.ensures.value) at c.in-Some.ensures in
    let todo =
    (found-to-do c.counters.names.items c.counters.done.items c.counters.from c.in-Some.at c.index.result.now next
    c.index.ensures) in
    omega (arith, todo.there, c.counters.done.ok)

pub counters-smaller : goal.counters-smaller
counters-smaller c =
    let next = rw (c.as_slice.ensures.value, c.as_slice-in-counters.ensures.value) at c.in-Some.ensures in
    let todo =
    (found-to-do c.counters.names.items c.counters.done.items c.counters.from c.in-Some.at c.index.result.now next
    c.index.ensures) in
    fewer-to-do c.counters.done.items c.index.result.now.place todo.there todo.fresh

pub counters-preserved : goal.counters-preserved
counters-preserved c =
    let next = rw (c.as_slice.ensures.value, c.as_slice-in-counters.ensures.value) at c.in-Some.ensures in
    let todo =
    (found-to-do c.counters.names.items c.counters.done.items c.counters.from c.in-Some.at c.index.result.now next
    c.index.ensures) in
    goes-on c.args.first.items c.args.counters.now c.counters.names.items c.counters.done.items c.counters.from
    c.in-Some.at c.index.result.now
    c.add_counter_at.new.names.items c.counters.invariant next
    (found-here c.counters.names.items c.counters.done.items c.counters.from c.in-Some.at c.index.result.now next
    c.index.ensures)
    c.in_ok-add_counter_at.ensures
