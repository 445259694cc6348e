use Rattle.std.proofs.Common.{◌≡◌, ◌++◌, map, drop}
use Rattle.source_files.specs.Heads.{head_of}
use Rattle.source_files.specs.Chosen.{added_to}
use Rattle.source_files.proofs.choosing.added_to.Given as goal

-- what is added so far, and then to what follows
abbrev pub invariant-loop-one : goal.invariant-loop-one
invariant-loop-one l =
    l.all.items ++ added_to l.patterns (map head_of (drop l.one-index l.named))
    ≡ added_to l.patterns (map head_of l.named)
