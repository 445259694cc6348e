use Rattle.std.proofs.Common.{◌≡◌, map, drop}
use Rattle.parser_grammar.specs.Views.{item_of}
use Rattle.types_names.specs.Faults.{earlier, least}
use Rattle.types.specs.Texts.{assertions_of, clocks_unlike}
use Rattle.types.proofs.clocks.first_other_clock.Given as goal

abbrev pub invariant-loop-item : goal.invariant-loop-item
invariant-loop-item l =
    earlier l.fault (least (clocks_unlike l.clock (assertions_of (map item_of (drop l.item-index l.items)))))
    ≡ least (clocks_unlike l.clock (assertions_of (map item_of l.items)))
