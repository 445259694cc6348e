use Rattle.std.proofs.Common.{map, drop}
use Rattle.positions.specs.Views.{rows_data}
use Rattle.positions.proofs.BlockLaws.{AreBegun}
use Rattle.positions.proofs.block.blocks_for.Given as goal

abbrev pub invariant-loop-row : goal.invariant-loop-row
invariant-loop-row l =
    AreBegun (rows_data l.rows) (rows_data (drop l.row-index l.rows)) l.base (map (λ b. b.items) l.blocks.items)
