-- Which of some names is meant by one that is none of them.
use Rattle.std.specs.Prelude.{ℕ, ◌+◌, ◌<◌, ◌≤◌, List, Bool, length, slice_index, nat_le}
use Rattle.std.specs.Prelude.{◌&&◌, if◌then◌else◌}
use Rattle.std.specs.Str.{chars}
use Rattle.strsim.specs.Edits.{osa_table}

-- how many characters have to be put in, left out, replaced, or swapped with the next one, to make
-- one text of the other
abbrev pub edits : List ℕ → List ℕ → ℕ
edits from to = (osa_table (chars from) (chars to)).last_row (length (chars to))

-- whether two texts are about as long
abbrev pub are_as_long : ℕ → List ℕ → List ℕ → Bool
are_as_long most xs ys =
    nat_le (length xs) (length ys + most) && nat_le (length ys) (length xs + most)

-- how far a name is from another: the number of edits, and too far where one is much longer
abbrev pub gap : ℕ → List ℕ → List ℕ → ℕ
gap most name other = if are_as_long most name other then edits name other else most + 1

-- The first of the least gaps, which is at most so large.
pub record IsFirstLeast (most : ℕ) (gaps : List ℕ) (place : ℕ) : Type 0 where
  pub inside : place < length gaps
  pub near : slice_index gaps place ≤ most
  pub least : (k : ℕ) → k < length gaps → slice_index gaps place ≤ slice_index gaps k
  pub first : (k : ℕ) → k < place → slice_index gaps place < slice_index gaps k
