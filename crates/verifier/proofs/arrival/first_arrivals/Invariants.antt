use Rattle.std.proofs.Common.{◌≡◌, ◌<◌, length}
use Rattle.verifier.specs.Inference.{entry}
use Rattle.verifier.specs.Arrivals.{HoldsFrom}
use Rattle.verifier.proofs.arrival.first_arrivals.Given as goal

abbrev pub invariant-loop : goal.invariant-loop
invariant-loop l =
    record {
      long : length l.pending.items ≡ l.counter;
      some : 0 < l.counter;
      entry : HoldsFrom 0 l.pending.items (entry 0);
    }
