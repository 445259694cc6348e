use Rattle.std.proofs.Common.{◌≡◌, drop, if◌then◌else◌}
use Rattle.bytecode_programs.specs.Texts.{begins, goes_on}
use Rattle.bytecode.proofs.text.is_text.Given as goal

abbrev pub invariant-loop-byte : goal.invariant-loop-byte
invariant-loop-byte l =
    (if l.begins then begins l.dots (drop l.byte-index l.bytes) else goes_on l.dots (drop l.byte-index l.bytes))
    ≡ begins l.dots l.bytes
