use Rattle.std.proofs.Common.{◌<◌, ℕ}
use Rattle.types.specs.Drafts.{IsNumberIn}
use Rattle.types.proofs.cyclic.all_places.Given as goal

abbrev pub invariant-loop-place : goal.invariant-loop-place
invariant-loop-place l = (p : ℕ) → p < l.place → IsNumberIn p l.places.items
