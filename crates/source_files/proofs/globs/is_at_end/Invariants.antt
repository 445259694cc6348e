use Rattle.std.proofs.Common.{◌≡◌, length}
use Rattle.source_files.specs.Globs.{means, some_end}
use Rattle.source_files.proofs.globs.is_at_end.Given as goal

-- what is left of both
abbrev pub invariant-stars : goal.invariant-stars
invariant-stars l = some_end (means l.pattern) l.text ≡ some_end (means l.left) l.rest

abbrev pub decreases-stars : goal.decreases-stars
decreases-stars l = length l.left
