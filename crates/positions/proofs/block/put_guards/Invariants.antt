use Rattle.std.proofs.Common.{◌≡◌, ◌++◌, map, take}
use Rattle.bytecode_programs.specs.declared.block_instr.BlockInstr.TheVariants.{Unless}
use Rattle.positions.proofs.block.put_guards.Given as goal

abbrev pub invariant-loop-atom : goal.invariant-loop-atom
invariant-loop-atom l =
    l.block.items ≡ l.fn.block.items ++ map (λ n. Unless n l.end) (take l.atom-index l.atoms)
