use Rattle.std.proofs.Common.{◌≡◌, map, take}
use Rattle.answers_bytecode.proofs.run.widths_of.Given as goal

abbrev pub invariant-loop-signal : goal.invariant-loop-signal
invariant-loop-signal l = l.widths.items ≡ map (λ s. s.width) (take l.signal-index l.signal-items)
