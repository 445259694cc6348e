use Rattle.std.proofs.Common.{◌≡◌, drop}
use Rattle.vcd_reader.specs.Keys.{key_from}
use Rattle.vcd_reader.proofs.key.key_behind.Given as goal

abbrev pub invariant-loop-byte : goal.invariant-loop-byte
invariant-loop-byte l = key_from l.key (drop l.byte-index l.text) ≡ key_from l.front l.text
