use Rattle.std.proofs.Common.{◌≡◌, ◌++◌, drop}
use Rattle.import_scopes.specs.Words.{word_places}
use Rattle.import_scopes.proofs.words.words_of.Given as goal

abbrev pub invariant-loop-place : goal.invariant-loop-place
invariant-loop-place l = word_places 0 l.tokens ≡ l.words.items ++ word_places l.place (drop l.place l.tokens)
