use Rattle.std.proofs.Common.{◌≡◌}
use Rattle.history_ring.proofs.Fills.{IsRowPartly}
use Rattle.history_ring.proofs.store.write_row.Given as goal

abbrev pub invariant-loop-index : goal.invariant-loop-index
invariant-loop-index l = (l.places.start ≡ l.initial.places.start) ×
    (l.places.count ≡ l.initial.places.count) × IsRowPartly l.at l.index l.row
    l.initial.places.held l.places.held
