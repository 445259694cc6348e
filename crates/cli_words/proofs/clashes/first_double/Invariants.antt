use Rattle.std.proofs.Common.{◌≡◌, map, drop}
use Rattle.cli_words.specs.Files.{first_double}
use Rattle.cli_words.proofs.clashes.first_double.Given as goal

-- those that are left decide
abbrev pub invariant-loop-place : goal.invariant-loop-place
invariant-loop-place l =
    first_double (map (λ p. p.now) l.paths) ≡ first_double (map (λ p. p.now) (drop l.place l.paths))
