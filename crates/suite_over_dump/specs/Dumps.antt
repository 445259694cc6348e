-- What the paths of a text name in a dump.
use Rattle.std.specs.Prelude.{ℕ, List, Option, None, if◌then◌else◌}
use Rattle.std.specs.Option.{option_map}
use Rattle.std.specs.Str.{is_utf8}
use Rattle.vcd_reader.specs.Variables.{Declared, variable_named, size_of}

-- The width of the variable that a path names, if it names one that can be bound. What is no text
-- names nothing.
abbrev pub width_named : List Declared → List ℕ → Option ℕ
width_named vs path =
    if is_utf8 path then option_map (size_of vs) (variable_named vs path) else None
