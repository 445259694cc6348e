use Rattle.std.proofs.Common.{◌≡◌, ◌≤◌, map, drop, min}
use Rattle.parser_grammar.specs.ReadExpressions.{links_of, parts_of}
use Rattle.parser_grammar.specs.Views.{tree_of, link_of}
use Rattle.types_names.specs.Width.{chain_width, parts_width}
use Rattle.types_names.specs.Faults.{link_faults, part_faults, earlier, least}
use Rattle.types_names.specs.Views.{scope_of}
use Rattle.types_signals.proofs.expression.+expressions.Given as goal

abbrev pub invariant-see_links-loop-link : goal.invariant-see_links-loop-link
invariant-see_links-loop-link l = record {
  held : l.whole.width ≤ 129;
  width : min (chain_width (scope_of l.scope) l.whole.width (links_of (map link_of (drop l.link-index l.links)))) 129
      ≡ min (chain_width (scope_of l.scope) l.fn.first.width (links_of (map link_of l.links))) 129;
  fault : earlier l.whole.fault
      (least (link_faults (scope_of l.scope) l.sought (links_of (map link_of (drop l.link-index l.links)))))
      ≡ earlier l.fn.first.fault (least (link_faults (scope_of l.scope) l.sought (links_of (map link_of l.links))));
}

abbrev pub invariant-see_parts-loop-part : goal.invariant-see_parts-loop-part
invariant-see_parts-loop-part l = record {
  held : l.whole.width ≤ 129;
  width : min (parts_width (scope_of l.scope) l.whole.width (parts_of (map tree_of (drop l.part-index l.parts)))) 129
      ≡ min (parts_width (scope_of l.scope) l.fn.first.width (parts_of (map tree_of l.parts))) 129;
  fault : earlier l.whole.fault
      (least (part_faults (scope_of l.scope) l.sought (parts_of (map tree_of (drop l.part-index l.parts)))))
      ≡ earlier l.fn.first.fault (least (part_faults (scope_of l.scope) l.sought (parts_of (map tree_of l.parts))));
}
