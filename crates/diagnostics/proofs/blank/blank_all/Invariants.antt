use Rattle.std.proofs.Common.{◌≡◌, ◌++◌, map, take, drop}
use Rattle.diagnostics.specs.Blanked.{blank_for}
use Rattle.diagnostics.proofs.blank.blank_all.Given as goal

-- what is blanked so far, and the rest
abbrev pub invariant-loop-byte : goal.invariant-loop-byte
invariant-loop-byte l =
    l.bytes ≡ map blank_for (take l.byte-index l.fn.bytes) ++ drop l.byte-index l.fn.bytes
