use Rattle.std.proofs.Common.{◌≡◌, vec_len}
use Rattle.import_scopes.proofs.file.statuses_of.Given as goal

abbrev pub invariant-loop-word : goal.invariant-loop-word
invariant-loop-word l = vec_len l.statuses ≡ l.word-index
