use Rattle.std.proofs.Common.{◌≡◌, drop}
use Rattle.std.specs.List.{list_all}
use Rattle.axi4_rules.specs.Names.{is_word_part}
use Rattle.axi4_rules.proofs.names.are_word_parts.Given as goal

abbrev pub invariant-loop-byte : goal.invariant-loop-byte
invariant-loop-byte l = list_all is_word_part l.bytes ≡ list_all is_word_part (drop l.byte-index l.bytes)
