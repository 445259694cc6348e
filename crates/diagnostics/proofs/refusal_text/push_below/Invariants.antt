use Rattle.std.proofs.Common.{string_bytes, take}
use Rattle.std.specs.List.{flat_map}
use Rattle.diagnostics.specs.Told.{Grows, below}
use Rattle.diagnostics.proofs.refusal_text.push_below.Given as goal

-- the bytes so far
abbrev pub invariant-loop-byte : goal.invariant-loop-byte
invariant-loop-byte l =
    Grows (string_bytes l.fn.out) (string_bytes l.out) (flat_map below (take l.byte-index l.bytes))
