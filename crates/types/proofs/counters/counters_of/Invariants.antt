use Rattle.std.proofs.Common.{map, drop}
use Rattle.parser_grammar.specs.Views.{item_of}
use Rattle.types_names.specs.Views.{scope_of, columns_in}
use Rattle.types.proofs.CounterLaws.{AreReadyItems, Completes}
use Rattle.types.proofs.counters.counters_of.Given as goal

abbrev pub invariant-loop-item : goal.invariant-loop-item
invariant-loop-item l = record {
  ready : AreReadyItems (scope_of l.scope) (columns_in l.columns) (map item_of (drop l.item-index l.items));
  made : Completes (scope_of l.scope) (columns_in l.columns) (map item_of l.items)
      (map item_of (drop l.item-index l.items)) l.counters.items;
}
