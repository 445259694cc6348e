use Rattle.std.proofs.Common.{◌≡◌, ◌≤◌, ◌<◌, ℕ, Some, length}
use Rattle.std.specs.Prelude.{slice_get}
use Rattle.cycle_window.specs.declared.samples.Samples.{Samples}
use Rattle.cycle_window.specs.Samples.{IsNoted}
use Rattle.cycle_window.proofs.samples.note_each.Given as goal

abbrev pub invariant-loop-place : goal.invariant-loop-place
invariant-loop-place l = record {
  long : length l.all.items ≡ length l.fn.all.items;
  first : (i : ℕ) (s t : Samples) → i < l.place → slice_get l.fn.all.items i ≡ Some s
      → slice_get l.all.items i ≡ Some t → IsNoted s t;
  rest : (i : ℕ) → l.place ≤ i → slice_get l.all.items i ≡ slice_get l.fn.all.items i;
}
