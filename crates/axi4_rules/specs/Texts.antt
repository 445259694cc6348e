-- Texts, as lists of bytes, cut into parts.
use Rattle.std.specs.Prelude.{ℕ, ◌==◌, ◌||◌, ◌&&◌, Bool, true, false, not, if◌then◌else◌}
use Rattle.std.specs.Prelude.{List, [], ◌∷◌, length}
use Rattle.std.specs.List.{slice_split, filter}

abbrev pub is_empty : {A : Type 0} → List A → Bool
is_empty xs = length xs == 0

abbrev pub begins_with : ℕ → List ℕ → Bool
begins_with byte [] = false
begins_with byte (b ∷ bs) = b == byte

-- the parts between the separators; a text with no separator is one part
abbrev pub pieces : ℕ → List ℕ → List (List ℕ)
pieces separator text = slice_split (λ b. b == separator) text

-- the lines, which line feeds separate
abbrev pub lines : List ℕ → List (List ℕ)
lines text = pieces 10 text

-- those that aren't empty
abbrev pub filled_ones : List (List ℕ) → List (List ℕ)
filled_ones ts = filter (λ t. not (is_empty t)) ts

-- what stands between spaces
abbrev pub fields : List ℕ → List (List ℕ)
fields line = filled_ones (pieces 32 line)

-- space, tab, CR, LF
abbrev pub is_white : ℕ → Bool
is_white b = (b == 32) || (b == 9) || (b == 13) || (b == 10)

-- the text without what stands from each // to the end of its line; it begins inside such a
-- comment or not
unfoldable pub without_comments : Bool → List ℕ → List ℕ
without_comments inside [] = []
without_comments inside (b ∷ bs) =
    if b == 10 then 10 ∷ without_comments false bs
    else (if inside || ((b == 47) && begins_with 47 bs) then without_comments true bs
    else b ∷ without_comments false bs)

-- what stands between white space, without comments
unfoldable pub tokens : List ℕ → List (List ℕ)
tokens text = filled_ones (slice_split is_white (without_comments false text))
