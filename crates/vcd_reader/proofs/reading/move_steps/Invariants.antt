use Rattle.std.proofs.Common.{◌≡◌, ◌≤◌, ◌<◌, ◌++◌, ℕ, List, length, get_or}
use Rattle.vcd_reader.specs.declared.step.Step.{Step}
use Rattle.vcd_reader.specs.Stored.{stored_step}
use Rattle.vcd_reader.proofs.reading.move_steps.Given as goal

abbrev pub invariant-loop-place : goal.invariant-loop-place
invariant-loop-place l = record {
  moved : (front high : List ℕ) → length front ≡ l.by → (i : ℕ) (d : Step) → i < l.place
      → stored_step (front ++ high) (get_or l.steps i d) ≡ stored_step high (get_or l.fn.steps i d);
  rest : (i : ℕ) (d : Step) → l.place ≤ i → get_or l.steps i d ≡ get_or l.fn.steps i d;
}
