use Rattle.std.proofs.Common.{◌≡◌, drop, map}
use Rattle.parser_grammar.specs.Views.{item_of}
use Rattle.types.specs.Texts.{assertions_of, suite_clock}
use Rattle.suite_over_dump.proofs.clock.clock_path.Given as goal

-- no assertion so far
abbrev pub invariant-loop-item : goal.invariant-loop-item
invariant-loop-item l =
    suite_clock (assertions_of (map item_of l.file.items.items))
    ≡ suite_clock (assertions_of (map item_of (drop l.item-index l.file.items.items)))
