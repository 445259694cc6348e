use Rattle.std.proofs.Common.{◌≡◌, ◌+◌, take}
use Rattle.source_files.specs.Parts.{size_of}
use Rattle.source_files.proofs.part.spot_of.Given as goal

-- what is left of the byte after the texts so far
abbrev pub invariant-loop-part : goal.invariant-loop-part
invariant-loop-part l =
    size_of (take l.part l.parts) + l.left ≡ l.at
