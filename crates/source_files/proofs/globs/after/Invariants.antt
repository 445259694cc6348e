use Rattle.std.proofs.Common.{◌≡◌, drop}
use Rattle.source_files.specs.Globs.{after}
use Rattle.source_files.proofs.globs.after.Given as goal

-- what is left of both
abbrev pub invariant-loop-wanted : goal.invariant-loop-wanted
invariant-loop-wanted l = after l.segment l.text ≡ after (drop l.wanted-index l.segment) l.rest
