use Rattle.std.proofs.Common.{◌≡◌, ◌<◌, ◌≤◌, drop}
use Rattle.compiler.specs.Codes.{reach}
use Rattle.compiler.specs.Samples.{stores_code, counter_terms, largest}
use Rattle.compiler.specs.Chosen.{held_counters}
use Rattle.compiler.specs.Slots.{slots_in}
use Rattle.compiler.specs.Written.{written}
use Rattle.compiler.proofs.sample_code.stores_code.Given as goal

abbrev pub invariant-loop-place : goal.invariant-loop-place
invariant-loop-place l = record {
  same : written l.code (stores_code (slots_in l.slots) l.store (held_counters l.counters (drop
      l.place-index l.places)))
      ≡ written l.initial.code (stores_code (slots_in l.slots) 0 (held_counters l.counters l.places));
  few : l.store ≤ l.place-index;
  near : largest (λ h. largest reach (counter_terms h.counter)) (held_counters l.counters (drop
      l.place-index l.places)) < 65536;
}
