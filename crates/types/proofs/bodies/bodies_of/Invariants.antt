use Rattle.std.proofs.Common.{map, drop}
use Rattle.parser_grammar.specs.Views.{item_of}
use Rattle.types.specs.Views.{draft_of}
use Rattle.types_names.specs.Views.{scope_of, columns_in}
use Rattle.types.specs.Placed.{ExtendsPlaces}
use Rattle.types.specs.Readings.{AllRead}
use Rattle.types.specs.Texts.{declarations_of}
use Rattle.types.proofs.CounterLaws.{AreReadyItems}
use Rattle.types.proofs.SeenLaws.{Seen}
use Rattle.types.proofs.BodyLaws.{bodies_in}
use Rattle.types.proofs.bodies.bodies_of.Given as goal

abbrev pub invariant-loop-item : goal.invariant-loop-item
invariant-loop-item l = record {
  ready : AreReadyItems (scope_of l.scope) (columns_in l.columns) (map item_of (drop l.item-index l.items));
  grows : ExtendsPlaces l.fn.booleans.items l.booleans.items;
  read : Seen declarations_of
      (λ ds. AllRead (scope_of l.scope) (columns_in l.columns) l.booleans.items (bodies_in ds)
      (map draft_of l.bodies.items)) (map item_of l.items) (map item_of (drop l.item-index l.items));
}
