use Rattle.std.specs.Prelude.{ℕ, ◌↔◌, Contains}
use Rattle.judging.specs.Causes.{IsEndTick}
use Rattle.judging.proofs.cause.ticks_with_end.Given as goal

abbrev pub invariant-loop-place : goal.invariant-loop-place
invariant-loop-place l =
    (tick : ℕ) → Contains l.ticks.items tick ↔ IsEndTick l.ends l.start l.place tick
