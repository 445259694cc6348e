use Rattle.std.proofs.Common.{◌≡◌, drop}
use Rattle.report_gtkwave.specs.Scales.{scale_after}
use Rattle.report_gtkwave.proofs.scale.scale_after.Given as goal

-- what is left decides
abbrev pub invariant-loop-at : goal.invariant-loop-at
invariant-loop-at l = scale_after l.bytes ≡ scale_after (drop l.at l.bytes)
