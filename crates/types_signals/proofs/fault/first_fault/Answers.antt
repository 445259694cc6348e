use Rattle.std.proofs.Common.{◌+◌, map, drop, ap}
use Rattle.parser_grammar.specs.Trees as trees
use Rattle.parser_grammar.specs.Views.{item_of}
use Rattle.types_names.specs.Faults.{file_faults, item_faults}
use Rattle.types_names.specs.Views.{scope_of}
use Rattle.types_names.proofs.Lists.{at, Joins}
use Rattle.types_signals.proofs.SequenceLaws.{least-step}
use Rattle.types_signals.proofs.fault.first_fault.Goals as goal

pub loop-item-preserved : goal.loop-item-preserved
loop-item-preserved c =
    let s = scope_of c.args.scope.now in
    let joins : Joins (file_faults s c.args.sought (map item_of (drop c.loop-item.item-index c.args.items.now)))
    (item_faults s c.args.sought (item_of c.item-item.result))
    (file_faults s c.args.sought (map item_of (drop (c.loop-item.item-index + 1) c.args.items.now))) =
    record {
      is = ap (file_faults s c.args.sought)
          (at trees.ItemForm item_of c.args.items.now c.loop-item.item-index c.item-item.result c.loop-item-test.true
          c.item-item.is);
    } in
    least-step _ _ _ c.loop-item.fault c.in_ok-next.next _ _ joins c.in_ok-next.ensures c.earlier-fault.ensures
    c.loop-item.invariant
