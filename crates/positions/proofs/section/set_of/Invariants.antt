use Rattle.std.proofs.Common.{◌≡◌, drop}
use Rattle.std.specs.Prelude.{bit_or}
use Rattle.positions.specs.Sections.{bits}
use Rattle.positions.proofs.section.set_of.Given as goal

abbrev pub invariant-loop-position : goal.invariant-loop-position
invariant-loop-position l =
    bit_or (bits (drop l.position-index l.positions)) l.set ≡ bits l.positions
