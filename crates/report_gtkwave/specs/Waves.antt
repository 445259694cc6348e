-- What GTKWave calls the variables of a dump.
use Rattle.std.specs.Prelude.{ℕ, ◌-◌, List, [], ◌∷◌, ◌++◌, Bool, ◌||◌, if◌then◌else◌, codes}
use Rattle.std.specs.Prelude.{nat_le, decimal}
use Rattle.std.specs.Str.{bytes_eq}
use Rattle.vcd_reader.specs.Variables.{path_of}
use Rattle.vcd_reader.specs.Header.{name_of}
use Rattle.vcd_declarations.specs.Declarations.{Declaration, Fields, range_of}

-- kinds whose values are numbers without bits
abbrev pub is_plain : List ℕ → Bool
is_plain kind = bytes_eq kind (codes "integer") || bytes_eq kind (codes "parameter")

-- the range that so many bits have, as [7:0]; nothing of one
abbrev pub bits_of : ℕ → List ℕ
bits_of size = if nat_le size 1 then [] else codes "[" ++ decimal (size - 1) ++ codes ":0]"

-- what stands behind a path: the declared range, or else that of the size
abbrev pub suffix_by : List ℕ → List ℕ → ℕ → List ℕ
suffix_by kind [] size = if is_plain kind then [] else bits_of size
suffix_by kind (b ∷ range) size = if is_plain kind then [] else b ∷ range

-- a variable: its path, and what stands behind that
pub record WaveName : Type 0 where
  pub path : List ℕ
  pub suffix : List ℕ

abbrev pub wave_of : Declaration → WaveName
wave_of d = record {
  path = path_of d.scopes (name_of d.fields.reference);
  suffix = suffix_by d.fields.kind (range_of d.fields.reference) d.fields.size;
}

-- what stands behind a path in the first variable that it is of; nothing where it is of none
abbrev pub suffix_in : List WaveName → List ℕ → List ℕ
suffix_in [] path = []
suffix_in (w ∷ ws) path = if bytes_eq w.path path then w.suffix else suffix_in ws path
