use Rattle.std.proofs.Common.{◌≡◌, map, take}
use Rattle.bytecode_programs.proofs.copy.copy_blocks.Given as goal

abbrev pub invariant-loop-block : goal.invariant-loop-block
invariant-loop-block l = map (λ b. b.items) l.copied.items ≡ map (λ b. b.items) (take l.block-index l.blocks)
