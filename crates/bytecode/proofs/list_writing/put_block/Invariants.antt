use Rattle.std.proofs.Common.{◌≡◌, ◌++◌, length, take}
use Rattle.std.specs.List.{flat_map}
use Rattle.bytecode.specs.Spelling.{two, block_spelling}
use Rattle.bytecode.proofs.list_writing.put_block.Given as goal

abbrev pub invariant-loop-instr : goal.invariant-loop-instr
invariant-loop-instr l =
    l.out.items ≡ l.fn.out.items ++ (two (length l.block) ++ flat_map block_spelling (take l.instr-index l.block))
