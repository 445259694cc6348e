use Rattle.std.proofs.Common.{◌≡◌, drop, map}
use Rattle.report_gtkwave.specs.Waves.{suffix_in}
use Rattle.report_gtkwave.specs.Views.{wave_data}
use Rattle.report_gtkwave.proofs.waves.suffix_in.Given as goal

-- what is left decides
abbrev pub invariant-loop-wave : goal.invariant-loop-wave
invariant-loop-wave l =
    suffix_in (map wave_data l.waves) l.path ≡ suffix_in (map wave_data (drop l.wave-index l.waves)) l.path
