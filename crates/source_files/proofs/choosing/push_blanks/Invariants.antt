use Rattle.std.proofs.Common.{◌≡◌, ◌++◌, map, take}
use Rattle.diagnostics.specs.Blanked.{blank_for}
use Rattle.source_files.proofs.choosing.push_blanks.Given as goal

-- the bytes so far
abbrev pub invariant-loop-byte : goal.invariant-loop-byte
invariant-loop-byte l =
    l.out.items ≡ l.fn.out.items ++ map blank_for (take l.byte-index l.bytes)
