use Rattle.std.proofs.Common.{◌≡◌, map, drop}
use Rattle.parser_grammar.specs.Views.{item_of}
use Rattle.import_text.specs.Texts.{assertions_of}
use Rattle.import_text.proofs.text.has_none.Given as goal

-- the items so far leave all assertions to the others
abbrev pub invariant-loop-item : goal.invariant-loop-item
invariant-loop-item l =
    assertions_of (map item_of l.items) ≡ assertions_of (map item_of (drop l.item-index l.items))
