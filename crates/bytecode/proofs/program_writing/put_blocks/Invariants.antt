use Rattle.std.proofs.Common.{◌≡◌, ◌++◌, take, map}
use Rattle.std.specs.List.{flat_map}
use Rattle.bytecode.specs.Spelling.{counted_spelling, block_spelling}
use Rattle.bytecode.proofs.program_writing.put_blocks.Given as goal

abbrev pub invariant-loop-block : goal.invariant-loop-block
invariant-loop-block l =
    l.out.items ≡ l.fn.out.items ++ flat_map (counted_spelling block_spelling)
    (map (λ b. b.items) (take l.block-index l.blocks))
