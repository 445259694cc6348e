use Rattle.std.proofs.Common.{◌≡◌, take}
use Rattle.positions.specs.Living.{is_among}
use Rattle.positions.proofs.reach.is_among.Given as goal

abbrev pub invariant-loop-entry : goal.invariant-loop-entry
invariant-loop-entry l = l.found ≡ is_among (take l.entry-index l.list) l.position
