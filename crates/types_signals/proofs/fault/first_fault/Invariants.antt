use Rattle.std.proofs.Common.{◌≡◌, map, drop}
use Rattle.parser_grammar.specs.Views.{item_of}
use Rattle.types_names.specs.Faults.{file_faults, earlier, least}
use Rattle.types_names.specs.Views.{scope_of}
use Rattle.types_signals.proofs.fault.first_fault.Given as goal

abbrev pub invariant-loop-item : goal.invariant-loop-item
invariant-loop-item l =
    earlier l.fault (least (file_faults (scope_of l.scope) l.sought (map item_of (drop l.item-index l.items))))
    ≡ least (file_faults (scope_of l.scope) l.sought (map item_of l.items))
