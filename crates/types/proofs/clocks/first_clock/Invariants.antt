use Rattle.std.proofs.Common.{◌≡◌, map, drop}
use Rattle.parser_grammar.specs.Views.{item_of}
use Rattle.types.specs.Texts.{assertions_of, suite_clock}
use Rattle.types.proofs.clocks.first_clock.Given as goal

abbrev pub invariant-loop-item : goal.invariant-loop-item
invariant-loop-item l =
    suite_clock (assertions_of (map item_of (drop l.item-index l.items)))
    ≡ suite_clock (assertions_of (map item_of l.items))
