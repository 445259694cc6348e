use Rattle.std.proofs.Common.{◌≡◌, ◌<◌, ◌≤◌, drop}
use Rattle.compiler.specs.Codes.{reach}
use Rattle.compiler.specs.Samples.{atoms_code, largest}
use Rattle.compiler.specs.Chosen.{terms_at}
use Rattle.compiler.specs.Slots.{slots_in}
use Rattle.compiler.specs.Written.{written}
use Rattle.compiler.proofs.sample_code.atoms_code.Given as goal

abbrev pub invariant-loop-place : goal.invariant-loop-place
invariant-loop-place l = record {
  same : written l.code (atoms_code (slots_in l.slots) l.atom (terms_at l.booleans (drop
      l.place-index l.places)))
      ≡ written l.initial.code (atoms_code (slots_in l.slots) 0 (terms_at l.booleans l.places));
  few : l.atom ≤ l.place-index;
  near : largest reach (terms_at l.booleans (drop l.place-index l.places)) < 65536;
}
