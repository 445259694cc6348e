use Rattle.std.proofs.Common.{◌≡◌, ◌∷◌, map, take}
use Rattle.verifier.proofs.frame.Frame.of.Given as goal

abbrev pub invariant-loop-slot : goal.invariant-loop-slot
invariant-loop-slot l = l.slots.items ≡ 1 ∷ map (λ s. s.width) (take l.slot-index l.program.signals.items)
