use Rattle.std.proofs.Common.{◌≡◌, map, take}
use Rattle.bytecode_programs.specs.Views.{slot_data}
use Rattle.compiler.specs.Parts.{slot_at}
use Rattle.compiler.proofs.slots.signal_slots.Given as goal

abbrev pub invariant-loop-place : goal.invariant-loop-place
invariant-loop-place l = map slot_data l.slots.items ≡ map (slot_at l.signals) (take l.place-index l.places)
