use Rattle.std.proofs.Common.{map, drop}
use Rattle.parser_grammar.specs.Views.{item_of}
use Rattle.types.specs.Entries.{Bodies, IsEntryTable}
use Rattle.types_names.specs.Views.{scope_of, columns_in}
use Rattle.types.specs.Placed.{ExtendsPlaces}
use Rattle.types.specs.Texts.{assertions_of}
use Rattle.types.specs.Resolved.{AreResolved}
use Rattle.types.proofs.CounterLaws.{AreReadyItems}
use Rattle.types.proofs.SeenLaws.{Seen}
use Rattle.types.proofs.resolved.all_resolved.Given as goal

abbrev pub invariant-loop-item : goal.invariant-loop-item
invariant-loop-item l = record {
  ready : AreReadyItems (scope_of l.scope) (columns_in l.columns) (map item_of (drop l.item-index l.items));
  grows : ExtendsPlaces l.fn.booleans.items l.booleans.items;
  made : (bodies : Bodies) → IsEntryTable bodies l.table →
      Seen assertions_of
      (λ us. AreResolved (scope_of l.scope) (columns_in l.columns) l.booleans.items bodies 0 us l.resolved.items)
      (map item_of l.items) (map item_of (drop l.item-index l.items));
}
