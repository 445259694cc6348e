use Rattle.std.proofs.Common.{◌≡◌, ◌++◌, map, drop, string_bytes}
use Rattle.cli_words.proofs.clashes.push_all.Given as goal

abbrev pub invariant-loop-path : goal.invariant-loop-path
invariant-loop-path l =
    map (λ p. p.now) l.paths.items ++ map string_bytes (drop l.path-index l.more)
    ≡ map (λ p. p.now) l.initial.paths.items ++ map string_bytes l.more
