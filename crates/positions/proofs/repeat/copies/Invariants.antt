use Rattle.std.proofs.Common.{◌≡◌, ◌*◌, ◌-◌, length}
use Rattle.std.specs.List.{flat_map}
use Rattle.positions.specs.Tables.{shift, numbers_from}
use Rattle.positions.proofs.repeat.copies.Given as goal

abbrev pub invariant-loop-copy : goal.invariant-loop-copy
invariant-loop-copy l =
    l.list.items ≡ flat_map (λ c. shift (c * length l.body.rows) l.body.starts)
    (numbers_from l.first (l.copy - l.first))
