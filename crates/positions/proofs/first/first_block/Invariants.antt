use Rattle.std.proofs.Common.{◌≡◌, map, take}
use Rattle.machine_sections.specs.Firsts.{first_step}
use Rattle.positions.proofs.first.first_block.Given as goal

abbrev pub invariant-loop-instr : goal.invariant-loop-instr
invariant-loop-instr l = l.made.items ≡ map first_step (take l.instr-index l.block)
