use Rattle.std.proofs.Common.{◌+◌, map, drop, ap}
use Rattle.parser_grammar.specs.Trees as trees
use Rattle.parser_grammar.specs.Views.{item_of}
use Rattle.types_names.specs.Columns.{file_signals, item_signals}
use Rattle.types_names.specs.Views.{scope_of, columns_in}
use Rattle.types_names.proofs.Lists.{at, Joins}
use Rattle.types_signals.proofs.ListingLaws.{listed-step}
use Rattle.types_signals.proofs.columns.columns_of.Goals as goal

pub loop-item-preserved : goal.loop-item-preserved
loop-item-preserved c =
    let s = scope_of c.args.scope.now in
    let joins : Joins (file_signals s (map item_of (drop c.loop-item.item-index c.args.items.now)))
    (item_signals s (item_of c.item-item.result))
    (file_signals s (map item_of (drop (c.loop-item.item-index + 1) c.args.items.now))) =
    record {
      is = ap (file_signals s)
          (at trees.ItemForm item_of c.args.items.now c.loop-item.item-index c.item-item.result c.loop-item-test.true
          c.item-item.is);
    } in
    listed-step _ _ _ (columns_in c.loop-item.columns) _ _ joins c.in_ok-list_item.ensures c.loop-item.invariant
