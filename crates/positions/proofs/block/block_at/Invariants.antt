use Rattle.std.proofs.Common.{map, drop}
use Rattle.positions.specs.Views.{edge_data}
use Rattle.positions.proofs.BlockLaws.{IsBegun}
use Rattle.positions.proofs.block.block_at.Given as goal

abbrev pub invariant-loop-edge : goal.invariant-loop-edge
invariant-loop-edge l =
    IsBegun l.base (map edge_data l.row) (map edge_data (drop l.edge-index l.row)) l.block.items
