use Rattle.std.proofs.Common.{◌≡◌, ◌++◌, drop, map}
use Rattle.parser_grammar.specs.Views.{item_of}
use Rattle.lint_notes.specs.Idle.{data_of, heads}
use Rattle.lint_notes.proofs.head.heads_of.Given as goal

-- the assertions that are left still come
abbrev pub invariant-loop-item : goal.invariant-loop-item
invariant-loop-item l =
    map data_of l.heads.items ++ heads (map item_of (drop l.item-index l.file.items.items))
    ≡ heads (map item_of l.file.items.items)
