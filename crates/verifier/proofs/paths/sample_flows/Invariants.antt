use Rattle.std.proofs.Common.{◌≡◌, map, take}
use Rattle.bytecode_programs.specs.Instructions.{sample_flow}
use Rattle.verifier.proofs.paths.sample_flows.Given as goal

abbrev pub invariant-code : goal.invariant-code
invariant-code l = l.flows.items ≡ map sample_flow (take l.k l.code)
