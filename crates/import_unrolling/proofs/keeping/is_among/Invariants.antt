use Rattle.std.proofs.Common.{◌≡◌, drop}
use Rattle.import_unrolling.specs.Unrolled.{is_among}
use Rattle.import_unrolling.proofs.keeping.is_among.Given as goal

-- all of the one list is among the other exactly where what is left of both is so
abbrev pub invariant-loop-byte : goal.invariant-loop-byte
invariant-loop-byte l = is_among l.some l.all ≡ is_among (drop l.next l.some) (drop l.byte-index l.all)
