-- The table of what is told.
use Rattle.std.specs.Prelude.{ℕ, ◌-◌, min, max, List, [], ◌∷◌, ◌++◌, length, replicate, codes}
use Rattle.std.specs.List.{flat_map}
use Rattle.std.specs.Fmt.{decimal}
use Rattle.cli_names.specs.declared.column.Column.{Column}
use Rattle.cli_names.specs.declared.column.Column.TheVariants.{Path, Size, Range, Kind}
use Rattle.cli_names.specs.Notes.{note_text}
use Rattle.cli_names.specs.Rows.{RowData}

-- the text of a row in a column
abbrev pub cell : Column → RowData → List ℕ
cell Path r = r.path
cell Size r = r.size
cell Range r = r.range
cell Kind r = r.kind

-- a column is no wider than that
abbrev pub most : Column → ℕ
most Path = 60
most Size = 10
most Range = 16
most Kind = 16

-- the width of a column: that of its widest text, at most `most`
unfoldable pub width_of : Column → List RowData → ℕ
width_of c [] = 0
width_of c (r ∷ rs) = max (min (length (cell c r)) (most c)) (width_of c rs)

abbrev pub blanks : ℕ → List ℕ
blanks n = replicate n 32

-- the text at the left of so many columns, and at their right
abbrev pub left : ℕ → List ℕ → List ℕ
left width text = text ++ blanks (width - length text)

abbrev pub right : ℕ → List ℕ → List ℕ
right width text = blanks (width - length text) ++ text

-- the widths of a table's columns
pub record Widths : Type 0 where
  pub path : ℕ
  pub size : ℕ
  pub range : ℕ
  pub kind : ℕ

abbrev pub widths_of : List RowData → Widths
widths_of rs = record {
  path = width_of Path rs;
  size = width_of Size rs;
  range = width_of Range rs;
  kind = width_of Kind rs;
}

-- the kind, and the note where there is one
abbrev pub ending : ℕ → List ℕ → List ℕ → List ℕ
ending width kind [] = kind
ending width kind (b ∷ bs) = left width kind ++ blanks 2 ++ b ∷ bs

-- a line of the table
unfoldable pub line_text : Widths → RowData → List ℕ
line_text w r =
    left w.path r.path ++ blanks 2 ++ right w.size r.size ++ blanks 2
    ++ left w.range r.range ++ blanks 2 ++ ending w.kind r.kind (note_text r.note) ++ codes "\n"

-- the table of these rows, where the dump has so many variables
unfoldable pub table_text : List RowData → ℕ → List ℕ
table_text [] total = codes "0 of " ++ decimal total ++ codes " variables\n"
table_text (r ∷ rs) total = flat_map (line_text (widths_of (r ∷ rs))) (r ∷ rs)
