use Rattle.std.proofs.Common.{◌≡◌, ◌*◌, take}
use Rattle.std.specs.List.{flat_map}
use Rattle.positions.specs.Tables.{shift}
use Rattle.positions.proofs.pairing.Pairing.pairs.Given as goal

abbrev pub invariant-loop-first : goal.invariant-loop-first
invariant-loop-first l =
    l.list.items ≡ flat_map (λ x. shift (x * l.self.second) l.seconds) (take l.first-index l.firsts)
