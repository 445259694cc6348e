use Rattle.std.proofs.Common.{◌≡◌, drop}
use Rattle.report_gtkwave.specs.Scales.{scale_in}
use Rattle.report_gtkwave.proofs.scale.scale_in.Given as goal

-- what is left decides
abbrev pub invariant-loop-at : goal.invariant-loop-at
invariant-loop-at l = scale_in l.bytes ≡ scale_in (drop l.at l.bytes)
