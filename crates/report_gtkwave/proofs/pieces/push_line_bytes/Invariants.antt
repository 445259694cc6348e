use Rattle.std.proofs.Common.{take}
use Rattle.std.specs.Prelude.{flat_map}
use Rattle.report_forms.specs.Grown.{Grows}
use Rattle.report_gtkwave.specs.Saves.{line_byte}
use Rattle.report_gtkwave.proofs.pieces.push_line_bytes.Given as goal

-- the bytes so far
abbrev pub invariant-loop-byte : goal.invariant-loop-byte
invariant-loop-byte l =
    Grows l.fn.out.items l.out.items (flat_map line_byte (take l.byte-index l.bytes))
