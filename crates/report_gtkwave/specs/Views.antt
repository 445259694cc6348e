-- What the code holds of a dump's variables, as the definitions say it.
use Rattle.std.specs.Prelude.{ℕ, List, map}
use Rattle.vcd_declarations.specs.Views.{path_in}
use Rattle.report_gtkwave.specs.declared.waves.Wave.{Wave}
use Rattle.report_gtkwave.specs.declared.waves.Waves.{Waves}
use Rattle.report_gtkwave.specs.Waves.{WaveName}

abbrev pub wave_data : Wave → WaveName
wave_data w = record { path = path_in w.spelling; suffix = w.suffix.items }

-- what GTKWave calls the variables, in the header's order
abbrev pub names_in : Waves → List WaveName
names_in w = map wave_data w.waves.items

-- how many units of GTKWave one of the dump is
abbrev pub unit_in : Waves → ℕ
unit_in w = w.scale
