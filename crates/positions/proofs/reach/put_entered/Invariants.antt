use Rattle.std.proofs.Common.{◌≡◌, ◌++◌, map, take}
use Rattle.std.specs.List.{flat_map}
use Rattle.positions.specs.Views.{edge_data}
use Rattle.positions.proofs.reach.put_entered.Given as goal

abbrev pub invariant-loop-edge : goal.invariant-loop-edge
invariant-loop-edge l =
    l.list.items ≡ l.fn.list.items ++ flat_map (λ e. e.enters) (map edge_data (take l.edge-index l.row))
