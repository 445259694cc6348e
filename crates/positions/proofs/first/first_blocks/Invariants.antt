use Rattle.std.proofs.Common.{◌≡◌, map, take}
use Rattle.machine_sections.specs.Firsts.{first_step}
use Rattle.positions.proofs.first.first_blocks.Given as goal

abbrev pub invariant-loop-block : goal.invariant-loop-block
invariant-loop-block l =
    map (λ b. b.items) l.made.items ≡ map (map first_step) (map (λ b. b.items) (take l.block-index l.blocks))
