use Rattle.std.proofs.Common.{◌≡◌, ◌++◌, length, take}
use Rattle.std.specs.List.{flat_map}
use Rattle.bytecode.specs.Spelling.{two, byte}
use Rattle.bytecode.proofs.list_writing.put_widths.Given as goal

abbrev pub invariant-loop-width : goal.invariant-loop-width
invariant-loop-width l =
    l.out.items ≡ l.fn.out.items ++ (two (length l.widths) ++ flat_map byte (take l.width-index l.widths))
