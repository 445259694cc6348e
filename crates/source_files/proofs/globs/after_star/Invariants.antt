use Rattle.std.proofs.Common.{◌≡◌, drop}
use Rattle.source_files.specs.Globs.{after_star}
use Rattle.source_files.proofs.globs.after_star.Given as goal

-- no star so far
abbrev pub invariant-loop-at : goal.invariant-loop-at
invariant-loop-at l = after_star l.pattern ≡ after_star (drop l.at l.pattern)
