use Rattle.std.proofs.Common.{◌≡◌, ◌++◌, map, string_bytes, take}
use Rattle.diagnostics.specs.Blanked.{blank_for}
use Rattle.diagnostics.proofs.blank.push_blanks.Given as goal

-- the bytes so far
abbrev pub invariant-loop-byte : goal.invariant-loop-byte
invariant-loop-byte l = string_bytes l.out ≡ string_bytes l.fn.out ++ map blank_for (take l.byte-index l.bytes)
