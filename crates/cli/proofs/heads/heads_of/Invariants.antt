use Rattle.std.proofs.Common.{◌≡◌, ◌++◌, map, drop}
use Rattle.parser_grammar.specs.Views.{item_of}
use Rattle.cli.specs.Heads.{assertion_places, counter_names}
use Rattle.cli.proofs.heads.heads_of.Given as goal

-- those so far, and those of the items that are left
abbrev pub invariant-loop-item : goal.invariant-loop-item
invariant-loop-item l =
    let all = l.file.items.items in
    record {
      places : l.places.items ++ assertion_places (map item_of (drop l.item-index all))
          ≡ assertion_places (map item_of all);
      counters : map (λ t. t.now) l.counters.items ++ counter_names (map item_of (drop l.item-index all))
          ≡ counter_names (map item_of all);
    }
