use Rattle.std.proofs.Common.{◌≡◌, [], map, drop}
use Rattle.std.specs.List.{fold}
use Rattle.cli_words.specs.Paths.{after_part}
use Rattle.cli_words.proofs.plain_paths.plain_parts.Given as goal

-- those that are left go on from the parts so far
abbrev pub invariant-loop-part : goal.invariant-loop-part
invariant-loop-part l =
    fold (after_part l.rooted) (map (λ p. p.now) l.plain.items) (map (λ p. p.now) (drop l.part-index l.parts))
    ≡ fold (after_part l.rooted) [] (map (λ p. p.now) l.parts)
