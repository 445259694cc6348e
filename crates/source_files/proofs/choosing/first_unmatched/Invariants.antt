use Rattle.std.proofs.Common.{◌≡◌, map, string_bytes}
use Rattle.std.specs.List.{position_from}
use Rattle.std.specs.Prelude.{not, drop}
use Rattle.source_files.specs.Heads.{head_of}
use Rattle.source_files.specs.Chosen.{is_named, first_unmatched}
use Rattle.source_files.proofs.choosing.first_unmatched.Given as goal

-- the patterns so far mean an assertion each
abbrev pub invariant-loop-place : goal.invariant-loop-place
invariant-loop-place l =
    first_unmatched l.patterns (map head_of l.named)
    ≡ position_from (λ p. not (is_named (string_bytes p) (map head_of l.named))) l.place
    (drop l.place l.patterns)
