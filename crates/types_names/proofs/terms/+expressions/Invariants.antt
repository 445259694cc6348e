use Rattle.std.proofs.Common.{◌≡◌, ◌≤◌, [], map, drop, IsTrue}
use Rattle.parser_grammar.specs.ReadExpressions.{links_of, parts_of}
use Rattle.parser_grammar.specs.Views.{tree_of, link_of}
use Rattle.expressions.specs.Terms.{Term, width_of}
use Rattle.expressions.specs.Expressions.{term_of}
use Rattle.types_names.specs.declared.own.Sought.{Sought}
use Rattle.types_names.specs.Width.{parts_width}
use Rattle.types_names.specs.Faults.{link_faults, part_faults}
use Rattle.types_names.specs.Columns.{all_listed, link_signals, part_signals}
use Rattle.types_names.specs.Meanings.{Chains, JoinsMore}
use Rattle.types_names.specs.Views.{scope_of, columns_in}
use Rattle.types_names.proofs.terms.+expressions.Given as goal

abbrev pub invariant-chain-loop-link : goal.invariant-chain-loop-link
invariant-chain-loop-link l = record {
  sound : (k : Sought) → link_faults (scope_of l.scope) k (links_of (map link_of (drop l.link-index l.links))) ≡ [];
  listed : IsTrue
      (all_listed (columns_in l.columns)
      (link_signals (scope_of l.scope) (links_of (map link_of (drop l.link-index l.links)))));
  means : (e : Term) → Chains (scope_of l.scope) (columns_in l.columns) (term_of l.whole)
      (links_of (map link_of (drop l.link-index l.links))) e
      → Chains (scope_of l.scope) (columns_in l.columns) (term_of l.fn.first) (links_of (map link_of l.links)) e;
}

abbrev pub invariant-join-loop-part : goal.invariant-join-loop-part
invariant-join-loop-part l = record {
  sound : (k : Sought) → part_faults (scope_of l.scope) k (parts_of (map tree_of (drop l.part-index l.parts))) ≡ [];
  listed : IsTrue
      (all_listed (columns_in l.columns)
      (part_signals (scope_of l.scope) (parts_of (map tree_of (drop l.part-index l.parts)))));
  narrow : parts_width (scope_of l.scope) (width_of (term_of l.whole))
      (parts_of (map tree_of (drop l.part-index l.parts))) ≤ 128;
  means : (e : Term) → JoinsMore (scope_of l.scope) (columns_in l.columns) (term_of l.whole)
      (parts_of (map tree_of (drop l.part-index l.parts))) e
      → JoinsMore (scope_of l.scope) (columns_in l.columns) (term_of l.fn.first) (parts_of (map tree_of l.parts)) e;
}
