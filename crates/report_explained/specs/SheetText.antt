-- A sheet as text. How wide its columns are is left open.
use Rattle.std.specs.Prelude.{◌≡◌, ◌⊎◌, ◌≤◌, ◌-◌, ◌||◌, ℕ, Bool, true, false}
use Rattle.std.specs.Prelude.{List, [], ◌∷◌, ◌++◌, Option, Some, None, map, drop, replicate}
use Rattle.std.specs.Prelude.{codes, decimal, nat_le, nat_lt, string_bytes, ⊤, ◌^◌}
use Rattle.std.specs.Fmt.{digits}
use Rattle.std.specs.List.{AllZip, flat_map}
use Rattle.report_forms.specs.Grown.{Grows}
use Rattle.report_forms.specs.Provenances.{ProvenanceData, time_at}
use Rattle.report_explained.specs.declared.columns.Line.{Line}
use Rattle.report_explained.specs.declared.sheet.Sheet.{Sheet}
use Rattle.report_explained.specs.declared.sheet.SheetRow.{SheetRow}

-- hexadecimal digits; which ones those of a value of over 64 bits are is left open
abbrev pub AreDigitsBy : Bool → ℕ → List ℕ → Type 0
AreDigitsBy true value text = text ≡ digits 16 false value
AreDigitsBy false value text = ⊤

abbrev pub AreDigits : ℕ → List ℕ → Type 0
AreDigits value text = AreDigitsBy (nat_lt value (2 ^ 64)) value text

-- digits after the mark of hexadecimal ones
pub record IsMarked (value : ℕ) (text : List ℕ) : Type 0 where
  pub rest : List ℕ
  pub is : text ≡ codes "'h" ++ rest
  pub are : AreDigits value rest

-- a value of so many bits is in decimal up to 4 bits and up to 9
abbrev pub is_decimal : ℕ → ℕ → Bool
is_decimal width value = nat_le width 4 || nat_le value 9

abbrev pub IsValueBy : Bool → ℕ → List ℕ → Type 0
IsValueBy true value text = text ≡ decimal value
IsValueBy false value text = IsMarked value text

abbrev pub IsValueText : ℕ → ℕ → List ℕ → Type 0
IsValueText width value text = IsValueBy (is_decimal width value) value text

-- a cell has its value; one without a value has a dash, or nothing
abbrev pub IsCellText : ℕ → Option ℕ → List ℕ → Type 0
IsCellText width None text = (text ≡ []) ⊎ (text ≡ codes "-")
IsCellText width (Some value) text = IsValueText width value text

-- what a line is called, and a text for each column
abbrev pub LineData : Type 0
LineData = List ℕ × List (List ℕ)

abbrev pub line_data : Line → LineData
line_data l = (string_bytes l.label, map string_bytes l.cells.items)

abbrev pub first_of : List ℕ → Option ℕ
first_of [] = None
first_of (n ∷ ns) = Some n

-- two dots stand for clocks that are left out between two
abbrev pub is_gap : Option ℕ → Option ℕ → Bool
is_gap None clock = false
is_gap (Some before) None = false
is_gap (Some before) (Some clock) = nat_lt 1 (clock - before)

abbrev pub gap_text : Bool → List (List ℕ)
gap_text true = codes ".." ∷ []
gap_text false = []

-- a text for each clock, after the clock before, with a column for each gap
unfoldable pub with_gaps : Option ℕ → List ℕ → List (List ℕ) → List (List ℕ)
with_gaps before clocks [] = []
with_gaps before clocks (t ∷ ts) =
    gap_text (is_gap before (first_of clocks))
    ++ t ∷ with_gaps (first_of clocks) (drop 1 clocks) ts

-- a number for each clock
abbrev pub number_line : List ℕ → List ℕ → List ℕ → LineData
number_line label clocks numbers = (label, with_gaps None clocks (map decimal numbers))

-- the line of a row
pub record IsRowLine (clocks : List ℕ) (row : SheetRow) (line : LineData) : Type 0 where
  pub texts : List (List ℕ)
  pub each : AllZip (IsCellText row.width) row.cells.items texts
  pub is : line ≡ (string_bytes row.label, with_gaps None clocks texts)

-- what may stand before the line of a row
abbrev pub IsHeading : List LineData → Type 0
IsHeading ls = (ls ≡ []) ⊎ (ls ≡ (codes "booleans:", []) ∷ [])

-- the lines of a row
pub record AreRowLines (clocks : List ℕ) (row : SheetRow) (lines : List LineData) : Type 0 where
  pub heading : List LineData
  pub is_heading : IsHeading heading
  pub line : LineData
  pub is_line : IsRowLine clocks row line
  pub are : lines ≡ heading ++ line ∷ []

-- lines that grew by those of a row
pub record GrowsByRow (clocks : List ℕ) (row : SheetRow) (old new : List LineData) : Type 0 where
  pub lines : List LineData
  pub are : AreRowLines clocks row lines
  pub grown : new ≡ old ++ lines

-- lines that grew by those of rows
pub record GrowsByRows (clocks : List ℕ) (rows : List SheetRow) (old new : List LineData) :
    Type 0 where
  pub each : List (List LineData)
  pub are : AllZip (AreRowLines clocks) rows each
  pub grown : new ≡ old ++ flat_map (λ ls. ls) each

abbrev pub blanks : ℕ → List ℕ
blanks n = replicate n 32

-- a text after two blanks or more
pub record IsApart (text piece : List ℕ) : Type 0 where
  pub count : ℕ
  pub apart : 2 ≤ count
  pub is : piece ≡ blanks count ++ text

-- what stands in a column; nothing of a text without a character
abbrev pub IsPlaced : List ℕ → List ℕ → Type 0
IsPlaced [] piece = piece ≡ []
IsPlaced (b ∷ bs) piece = IsApart (b ∷ bs) piece

-- a text that grew by such pieces
pub record GrowsPlaced (old new : List ℕ) (cells : List (List ℕ)) : Type 0 where
  pub pieces : List (List ℕ)
  pub each : AllZip IsPlaced cells pieces
  pub grown : Grows old new (flat_map (λ p. p) pieces)

-- A line as text: what it is called, and its texts.
pub record IsLineText (line : LineData) (text : List ℕ) : Type 0 where
  pub pieces : List (List ℕ)
  pub each : AllZip IsPlaced line.1 pieces
  pub is : text ≡ codes "  " ++ line.0 ++ flat_map (λ p. p) pieces ++ codes "\n"

-- the clocks, and their times
abbrev pub head_lines : ProvenanceData → List ℕ → List LineData
head_lines p clocks =
    number_line (codes "clock") clocks clocks
    ∷ number_line (codes "time") clocks (map (time_at p) clocks) ∷ []

-- A sheet as text: the clocks, their times, and its rows.
pub record IsSheetText (p : ProvenanceData) (sheet : Sheet) (text : List ℕ) : Type 0 where
  pub rows : List (List LineData)
  pub each : AllZip (AreRowLines sheet.clocks.items) sheet.rows.items rows
  pub texts : List (List ℕ)
  pub told : AllZip IsLineText
      (head_lines p sheet.clocks.items ++ flat_map (λ ls. ls) rows) texts
  pub is : text ≡ flat_map (λ t. t) texts
