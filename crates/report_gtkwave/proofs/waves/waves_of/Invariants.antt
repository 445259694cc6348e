use Rattle.std.proofs.Common.{◌≡◌, ◌++◌, map, length}
use Rattle.vcd_declarations.specs.Declarations.{declarations}
use Rattle.vcd_declarations.specs.Views.{left_in}
use Rattle.report_gtkwave.specs.Waves.{wave_of}
use Rattle.report_gtkwave.specs.Views.{wave_data}
use Rattle.report_gtkwave.proofs.waves.waves_of.Given as goal

-- those so far, and those that are left
abbrev pub invariant-variables : goal.invariant-variables
invariant-variables l =
    map wave_of (declarations l.fn.bytes) ≡ map wave_data l.waves.items ++ map wave_of (left_in l.header)

abbrev pub decreases-variables : goal.decreases-variables
decreases-variables l = length (left_in l.header)
