use Rattle.std.proofs.Common.{◌≡◌, ◌++◌, drop}
use Rattle.import_unrolling.specs.Unrolled.{word_bytes}
use Rattle.import_unrolling.proofs.keeping.bytes_of.Given as goal

abbrev pub invariant-loop-token : goal.invariant-loop-token
invariant-loop-token l = word_bytes l.tokens ≡ l.bytes.items ++ word_bytes (drop l.token-index l.tokens)
