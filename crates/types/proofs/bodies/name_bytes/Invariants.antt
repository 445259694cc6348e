use Rattle.std.proofs.Common.{◌≡◌, map, drop}
use Rattle.parser_grammar.specs.Views.{item_of}
use Rattle.types.specs.Texts.{declarations_of}
use Rattle.types.proofs.SeenLaws.{Seen}
use Rattle.types.proofs.bodies.name_bytes.Given as goal

abbrev pub invariant-loop-item : goal.invariant-loop-item
invariant-loop-item l = record {
  made : Seen declarations_of (λ ds. l.bytes.items ≡ map (λ d. d.name.at) ds) (map item_of l.items)
      (map item_of (drop l.item-index l.items));
}
