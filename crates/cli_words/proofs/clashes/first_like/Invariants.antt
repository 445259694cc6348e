use Rattle.std.proofs.Common.{◌≡◌, map, drop}
use Rattle.cli_words.specs.Files.{first_like}
use Rattle.cli_words.proofs.clashes.first_like.Given as goal

-- those that are left decide
abbrev pub invariant-loop-path : goal.invariant-loop-path
invariant-loop-path l =
    first_like (map (λ p. p.now) l.others) (map (λ p. p.now) l.paths)
    ≡ first_like (map (λ p. p.now) l.others) (map (λ p. p.now) (drop l.path-index l.paths))
