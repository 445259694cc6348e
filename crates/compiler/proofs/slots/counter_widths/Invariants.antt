use Rattle.std.proofs.Common.{◌≡◌, map, take}
use Rattle.compiler.specs.Parts.{width_at}
use Rattle.compiler.proofs.slots.counter_widths.Given as goal

abbrev pub invariant-loop-place : goal.invariant-loop-place
invariant-loop-place l = l.widths.items ≡ map (width_at l.counters) (take l.place-index l.places)
