-- What is told of the variables that a header declares.
use Rattle.std.specs.Prelude.{◌≡◌, ◌↔◌, ℕ, suc, Bool, true, List, [], ◌∷◌, map, Some, string_bytes}
use Rattle.std.specs.Prelude.{if◌then◌else◌}
use Rattle.std.specs.Fmt.{decimal}
use Rattle.vcd_reader.specs.Variables.{Declared, path_of, variable_at_place, variable_named}
use Rattle.vcd_reader.specs.Variables.{is_place}
use Rattle.vcd_reader.specs.Header.{name_of}
use Rattle.vcd_declarations.specs.Declarations.{Fields, Declaration, variable_of, range_of}
use Rattle.vcd_declarations.specs.Views.{path_in, range_in}
use Rattle.cli_names.specs.declared.filter.Filter.{Filter}
use Rattle.cli_names.specs.declared.note.Note.{Note}
use Rattle.cli_names.specs.declared.note.Note.TheVariants.{Free}
use Rattle.cli_names.specs.declared.rows.Row.{Row}
use Rattle.cli_names.specs.Filters.{is_asked}
use Rattle.cli_names.specs.Spelled.{is_spelled}
use Rattle.cli_names.specs.Notes.{note_of}

-- what is told of a variable
pub record RowData : Type 0 where
  pub path : List ℕ
  pub size : List ℕ
  pub range : List ℕ
  pub kind : List ℕ
  pub note : Note

-- the scopes and the name of a declaration, joined by dots
abbrev pub path_told : Declaration → List ℕ
path_told d = path_of d.scopes (name_of d.fields.reference)

-- what is told of a variable of that path, range and section
abbrev pub row_with : List ℕ → List ℕ → Fields → Bool → RowData
row_with path range fields itself = record {
  path = path;
  size = decimal fields.size;
  range = range;
  kind = fields.kind;
  note = note_of fields.kind fields.size path itself;
}

-- what is told of the declaration at the place k of these variables
unfoldable pub row_told : List Declared → ℕ → Declaration → RowData
row_told vs k d =
    row_with (path_told d) (range_of d.fields.reference) d.fields
    (is_place k (variable_named vs (path_told d)))

-- of those from the place k on that are asked for, each once and in order
unfoldable pub rows_from : List Declared → Filter → ℕ → List Declaration → List RowData
rows_from vs f k [] = []
rows_from vs f k (d ∷ ds) =
    if is_asked f (path_told d) then row_told vs k d ∷ rows_from vs f (suc k) ds
    else rows_from vs f (suc k) ds

-- of all declarations that are asked for
unfoldable pub rows_told : Filter → List Declaration → List RowData
rows_told f ds = rows_from (map variable_of ds) f 0 ds

-- what a row in memory tells
abbrev pub row_data : Row → RowData
row_data r = record {
  path = path_in r.spelling;
  size = string_bytes r.size;
  range = range_in r.spelling;
  kind = r.kind.now;
  note = r.note;
}

-- A variable has no note exactly where a rule can spell its path, and the path names it.
abbrev pub AreNoted : Type 0
AreNoted =
    (vs : List Declared) (k : ℕ) (d : Declaration) → variable_at_place vs k ≡ variable_of d
    → ((row_told vs k d).note ≡ Free)
    ↔ ((is_spelled (path_told d) ≡ true) × (variable_named vs (path_told d) ≡ Some k))
