use Rattle.std.proofs.Common.{◌≡◌, drop}
use Rattle.source_files.specs.Chosen.{place_before}
use Rattle.source_files.proofs.added.place_before.Given as goal

-- what the additions so far leave to the others
abbrev pub invariant-loop-one : goal.invariant-loop-one
invariant-loop-one l =
    place_before l.added l.at ≡ place_before (drop l.one-index l.added) l.place
