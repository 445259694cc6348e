use Rattle.std.proofs.Common.{◌≡◌, drop, map}
use Rattle.parser_grammar.specs.Views.{item_of}
use Rattle.suite_over_dump.specs.Suites.{clock_byte}
use Rattle.suite_over_dump.proofs.clock.clock_byte.Given as goal

-- no assertion so far
abbrev pub invariant-loop-item : goal.invariant-loop-item
invariant-loop-item l =
    clock_byte (map item_of l.file.items.items) ≡ clock_byte (map item_of (drop l.item-index l.file.items.items))
