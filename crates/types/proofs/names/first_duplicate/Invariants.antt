use Rattle.std.proofs.Common.{◌≡◌, ◌≤◌, map, drop}
use Rattle.parser_grammar.specs.Views.{item_of}
use Rattle.types_names.specs.Faults.{earlier, least}
use Rattle.std.specs.BTreeSet.{contains_text}
use Rattle.types.specs.Texts.{names_from, duplicates}
use Rattle.types.proofs.NameLaws.{repeated_by}
use Rattle.types.proofs.names.first_duplicate.Given as goal

abbrev pub invariant-loop-item : goal.invariant-loop-item
invariant-loop-item l =
    record {
      place : l.before ≤ l.item-index;
      rest : earlier l.fault (least (repeated_by (contains_text l.known)
          (names_from l.before (map item_of (drop l.item-index l.items)))))
          ≡ least (duplicates (map item_of l.items));
    }
