use Rattle.std.proofs.Common.{◌≡◌, map, take}
use Rattle.diagnostics.specs.Blanked.{blank_for}
use Rattle.import_files.proofs.placing.blanks_of.Given as goal

-- what stands for the bytes so far
abbrev pub invariant-loop-byte : goal.invariant-loop-byte
invariant-loop-byte l = l.blanks.items ≡ map blank_for (take l.byte-index l.text)
