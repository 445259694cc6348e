use Rattle.std.proofs.Common.{◌≡◌, ◌<◌, ℕ, true}
use Rattle.types.specs.Entries.{has_entry}
use Rattle.types.proofs.cycles.has_all.Given as goal

abbrev pub invariant-loop-entry : goal.invariant-loop-entry
invariant-loop-entry l = (p : ℕ) → p < l.entry-index → has_entry l.table p ≡ true
