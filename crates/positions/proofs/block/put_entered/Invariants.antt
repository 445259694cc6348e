use Rattle.std.proofs.Common.{◌≡◌, ◌++◌, map, take}
use Rattle.bytecode_programs.specs.declared.block_instr.BlockInstr.TheVariants.{Enter}
use Rattle.positions.proofs.block.put_entered.Given as goal

abbrev pub invariant-loop-position : goal.invariant-loop-position
invariant-loop-position l =
    l.block.items ≡ l.fn.block.items ++ map (λ q. Enter q) (take l.position-index l.positions)
