-- The signals of a suite over a dump.
use Rattle.std.specs.Prelude.{◌≡◌, List, [], ◌∷◌, Some, string_bytes}
use Rattle.std.specs.Option.{option_map}
use Rattle.assertions.specs.declared.signal.Signal.{Signal}
use Rattle.vcd_reader.specs.Variables.{Declared, variable_named, size_of}
use Rattle.cycle_window.specs.Bound.{Wanted}

-- Each signal's path names a variable of the signal's width.
abbrev pub AreNamed : List Declared → List Signal → Type 0
AreNamed vs [] = Unit {0}
AreNamed vs (s ∷ ss) =
    (option_map (size_of vs) (variable_named vs (string_bytes s.path)) ≡ Some s.width)
    × AreNamed vs ss

-- a signal as it is bound
abbrev pub wanted_in_suite : Signal → Wanted
wanted_in_suite s = record { path = string_bytes s.path; width = s.width }
