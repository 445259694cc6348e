use Rattle.std.proofs.Common.{◌≡◌, ◌≤◌, ℕ, List, map, drop}
use Rattle.parser_grammar.specs.Views.{item_of}
use Rattle.types_names.specs.Scopes.{look_up, owns, owns_from}
use Rattle.types_names.specs.Entries.{first_of}
use Rattle.types_names.specs.Views.{own_in}
use Rattle.types_names.proofs.scope.owns_of.Given as goal

-- what is left decides where no name was found so far
abbrev pub invariant-loop-item : goal.invariant-loop-item
invariant-loop-item l = record {
  counters : l.counters ≤ l.item-index;
  sequences : l.sequences ≤ l.item-index;
  left : (q : List ℕ)
      → first_of (own_in l.names q)
      (look_up (owns_from l.counters l.sequences (map item_of (drop l.item-index l.items))) q)
      ≡ look_up (owns (map item_of l.items)) q;
}
