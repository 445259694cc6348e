use Rattle.std.proofs.Common.{◌≡◌, replicate}
use Rattle.history_ring.proofs.Fills.{IsRowPartly}
use Rattle.history_ring.proofs.store.clear.Given as goal

abbrev pub invariant-loop-index : goal.invariant-loop-index
invariant-loop-index l = (l.places.start ≡ l.initial.places.start) ×
    (l.places.count ≡ l.initial.places.count) × IsRowPartly 0 l.index (replicate l.count 0)
    l.initial.places.held l.places.held
