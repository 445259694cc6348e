use Rattle.std.proofs.Common.{◌≡◌, true, drop}
use Rattle.cli_names.specs.Spelled.{are_words}
use Rattle.cli_names.proofs.spelled.is_of_words.Given as goal

abbrev pub invariant-loop-byte : goal.invariant-loop-byte
invariant-loop-byte l = are_words true l.path ≡ are_words l.begins (drop l.byte-index l.path)
