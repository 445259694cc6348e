use Rattle.std.proofs.Common.{◌≡◌, drop}
use Rattle.source_files.specs.Globs.{first_after}
use Rattle.source_files.proofs.globs.first_after.Given as goal

-- they stand at no place so far
abbrev pub invariant-loop-at : goal.invariant-loop-at
invariant-loop-at l = first_after l.segment l.text ≡ first_after l.segment (drop l.at l.text)
