use Rattle.std.proofs.Common.{◌≡◌, ◌++◌, take}
use Rattle.std.specs.Prelude.{flat_map}
use Rattle.import_expressions.specs.Paths.{word_of}
use Rattle.import_expressions.proofs.paths.push_words.Given as goal

-- what is added of the names and dots so far
abbrev pub invariant-loop-token : goal.invariant-loop-token
invariant-loop-token l =
    l.out.items ≡ l.initial.out.items ++ flat_map word_of (take l.token-index l.tokens)
