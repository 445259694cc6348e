use Rattle.std.proofs.Common.{◌≡◌, map, drop}
use Rattle.source_files.specs.Heads.{head_of}
use Rattle.source_files.specs.Chosen.{is_named}
use Rattle.source_files.proofs.choosing.is_named.Given as goal

-- what the assertions so far leave to the others
abbrev pub invariant-loop-one : goal.invariant-loop-one
invariant-loop-one l =
    is_named l.pattern (map head_of l.named)
    ≡ is_named l.pattern (map head_of (drop l.one-index l.named))
