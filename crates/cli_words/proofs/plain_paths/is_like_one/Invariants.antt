use Rattle.std.proofs.Common.{◌≡◌, map, drop}
use Rattle.cli_words.specs.Paths.{plain_path}
use Rattle.cli_words.specs.Files.{is_like_one}
use Rattle.cli_words.proofs.plain_paths.is_like_one.Given as goal

-- those that are left decide
abbrev pub invariant-loop-other : goal.invariant-loop-other
invariant-loop-other l =
    (is_like_one (map (λ p. p.now) l.paths) l.path ≡ is_like_one (map (λ p. p.now) (drop l.other-index l.paths)) l.path)
    × (l.plain.items ≡ plain_path l.path)
