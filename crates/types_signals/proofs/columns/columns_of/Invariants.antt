use Rattle.std.proofs.Common.{◌≡◌, map, drop}
use Rattle.parser_grammar.specs.Views.{item_of}
use Rattle.types_names.specs.Columns.{with_paths, file_signals, columns_of}
use Rattle.types_names.specs.Views.{scope_of, columns_in}
use Rattle.types_signals.proofs.columns.columns_of.Given as goal

abbrev pub invariant-loop-item : goal.invariant-loop-item
invariant-loop-item l =
    with_paths (columns_in l.columns) (file_signals (scope_of l.scope) (map item_of (drop l.item-index l.items)))
    ≡ columns_of (scope_of l.scope) (map item_of l.items)
