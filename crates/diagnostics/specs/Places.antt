-- Where a byte of a text stands: its line and its column.
use Rattle.std.specs.Prelude.{◌≡◌, ℕ, ◌+◌, ◌-◌, List, Bool, take, not, count_by, length, min, ◌==◌}
use Rattle.std.specs.List.{suffix_len}
use Rattle.std.specs.Str.{IsCharBoundary}
use Rattle.diagnostics.specs.declared.place.Line.{Line}

abbrev pub is_feed : ℕ → Bool
is_feed b = b == 10

abbrev pub is_no_feed : ℕ → Bool
is_no_feed b = not (is_feed b)

-- the line, counted from 1: one more than the line feeds in front of the byte
abbrev pub line_number : List ℕ → ℕ → ℕ
line_number text at = count_by is_feed (take at text) + 1

-- the column, counted from 1: one more than the bytes of its line in front of it
abbrev pub column_number : List ℕ → ℕ → ℕ
column_number text at = suffix_len is_no_feed (take at text) + 1

-- where the line of a byte begins: so many bytes of it stand in front
abbrev pub line_start : List ℕ → ℕ → ℕ
line_start text at = length (take at text) - suffix_len is_no_feed (take at text)

-- The line in which a byte stands, or the end of the text where that is before it.
pub record IsLineOf (text : List ℕ) (at : ℕ) (line : Line) : Type 0 where
  pub number : line.number ≡ line_number text at
  pub start : line.start ≡ line_start text at
  pub reached : line.reached ≡ min at (length text)
  pub cut : IsCharBoundary text line.start
