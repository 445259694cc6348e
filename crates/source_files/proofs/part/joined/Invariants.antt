use Rattle.std.proofs.Common.{◌≡◌, ◌++◌, string_bytes, take}
use Rattle.std.specs.List.{flat_map}
use Rattle.source_files.specs.Parts.{after_feed}
use Rattle.source_files.proofs.part.joined.Given as goal

-- the texts so far
abbrev pub invariant-loop-part : goal.invariant-loop-part
invariant-loop-part l =
    string_bytes l.text ≡ string_bytes l.initial.text ++ flat_map after_feed (take l.part-index l.rest)
