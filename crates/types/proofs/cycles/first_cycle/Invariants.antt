use Rattle.std.proofs.Common.{map}
use Rattle.types.specs.Views.{draft_of}
use Rattle.types.specs.CycleStages.{IsFirstCycle}
use Rattle.types.proofs.cycles.first_cycle.Given as goal

abbrev pub invariant-loop-place : goal.invariant-loop-place
invariant-loop-place l = IsFirstCycle (map draft_of l.bodies) l.bytes l.place l.fault
