use Rattle.std.proofs.Common.{◌≡◌, map, take}
use Rattle.bytecode_programs.specs.Instructions.{block_flow}
use Rattle.verifier.proofs.paths.block_flows.Given as goal

abbrev pub invariant-block : goal.invariant-block
invariant-block l = l.flows.items ≡ map block_flow (take l.k l.block)
