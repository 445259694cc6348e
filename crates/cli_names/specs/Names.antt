-- The names of a dump, along its variables.
use Rattle.std.specs.Prelude.{ℕ, List, [], ◌∷◌, Bool, false}
use Rattle.std.specs.Str.{bytes_eq}
use Rattle.vcd_reader.specs.Variables.{Named}

-- whether the next name is that path
abbrev pub names_next : List Named → List ℕ → Bool
names_next [] path = false
names_next (n ∷ ns) path = bytes_eq n.path path
