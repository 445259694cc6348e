use Rattle.std.proofs.Common.{◌≡◌, map, drop}
use Rattle.parser_grammar.specs.ReadExpressions.{links_of, parts_of}
use Rattle.parser_grammar.specs.Views.{tree_of, link_of}
use Rattle.types_names.specs.Columns.{with_paths, link_signals, part_signals}
use Rattle.types_names.specs.Views.{scope_of, columns_in}
use Rattle.types_signals.proofs.listing.+expressions.Given as goal

abbrev pub invariant-list_links-loop-link : goal.invariant-list_links-loop-link
invariant-list_links-loop-link l =
    with_paths (columns_in l.columns)
    (link_signals (scope_of l.scope) (links_of (map link_of (drop l.link-index l.links))))
    ≡ with_paths (columns_in l.fn.columns) (link_signals (scope_of l.scope) (links_of (map link_of l.links)))

abbrev pub invariant-list_parts-loop-part : goal.invariant-list_parts-loop-part
invariant-list_parts-loop-part l =
    with_paths (columns_in l.columns)
    (part_signals (scope_of l.scope) (parts_of (map tree_of (drop l.part-index l.parts))))
    ≡ with_paths (columns_in l.fn.columns) (part_signals (scope_of l.scope) (parts_of (map tree_of l.parts)))
