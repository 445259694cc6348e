use Rattle.std.proofs.Common.{◌≡◌, ◌++◌, drop, take}
use Rattle.source_files.specs.Globs.{front_part}
use Rattle.source_files.proofs.globs.front_part.Given as goal

-- the bytes so far, and what is left of them
abbrev pub invariant-loop-at : goal.invariant-loop-at
invariant-loop-at l = front_part l.pattern ≡ take l.at l.pattern ++ front_part (drop l.at l.pattern)
