-- What is told of a refusal.
use Rattle.std.specs.Prelude.{◌≡◌, ℕ, ◌-◌, ◌++◌, ◌∷◌, [], List, Bool, take, drop, slice_get, map}
use Rattle.std.specs.Prelude.{count_by, not, ◌||◌, chars, encode_utf8_all}
use Rattle.std.specs.Prelude.{unwrap_or, codes, nat_le, nat_lt, ◌&&◌, ◌==◌, if◌then◌else◌}
use Rattle.std.specs.List.{flat_map, after_last}
use Rattle.std.specs.Str.Lines.{lines}
use Rattle.std.specs.Fmt.{decimal}
use Rattle.diagnostics.specs.Places.{is_feed, line_number, column_number, line_start}

-- a text that grew by a piece
pub record Grows (old new piece : List ℕ) : Type 0 where
  pub is : new ≡ old ++ piece

-- what stands below a byte: nothing below one that goes on with a character, a tab below a tab
abbrev pub below : ℕ → List ℕ
below b = if nat_le 128 b && nat_lt b 192 then [] else if b == 9 then 9 ∷ [] else 32 ∷ []

-- the line of a text that begins at a byte, and nothing where the text ends there
abbrev pub line_text : List ℕ → ℕ → List ℕ
line_text text start = unwrap_or (slice_get (lines (drop start text)) 0) []

-- the bytes of its line that stand in front of a byte
abbrev pub front_of : List ℕ → ℕ → List ℕ
front_of text at = after_last is_feed (take at text)

-- a character that has no place on a line: a control character but a tab, and one that sets a
-- direction of letters (Unicode's standard annex 9)
abbrev pub is_among : ℕ → ℕ → ℕ → Bool
is_among first last c = nat_le first c && nat_le c last

abbrev pub is_hidden : ℕ → Bool
is_hidden c =
    (nat_lt c 32 && not (c == 9)) || is_among 127 159 c || (c == 0x61c) || is_among 0x200e 0x200f c
    || is_among 0x202a 0x202e c || is_among 0x2066 0x2069 c

-- a character as it is shown, in one column: `?` for one that is hidden
abbrev pub shown_char : ℕ → ℕ
shown_char c = if is_hidden c then 63 else c

-- so many characters after so many others, as they are shown
abbrev pub shown_text : ℕ → ℕ → List ℕ → List ℕ
shown_text before count text =
    encode_utf8_all (map shown_char (take count (drop before (chars text))))

-- a byte with which a character begins
abbrev pub begins_char : ℕ → Bool
begins_char b = not (nat_le 128 b && nat_lt b 192)

-- A line, and what stands below it up to a caret, by the bytes in front of the caret: the line's
-- first 240 characters, or where over 160 are in front, those from 80 in front of it on.
abbrev pub told_line : List ℕ → List ℕ → List ℕ
told_line line front =
    if nat_le (count_by begins_char front) 160
    then shown_text 0 240 line ++ codes "\n" ++ flat_map below front
    else codes ".." ++ shown_text (count_by begins_char front - 80) 240 line ++ codes "\n"
    ++ codes "                                                                                  "

-- LINE:COLUMN
abbrev pub place_text : List ℕ → ℕ → List ℕ
place_text text at =
    decimal (line_number text at) ++ codes ":" ++ decimal (column_number text at)

-- PATH:LINE:COLUMN: MESSAGE, then the line of the text, or a part of it, and a caret below the byte
unfoldable pub refusal_text : List ℕ → List ℕ → ℕ → List ℕ → List ℕ
refusal_text path text at message =
    path ++ codes ":" ++ place_text text at ++ codes ": " ++ message ++ codes "\n"
    ++ told_line (line_text text (line_start text at)) (front_of text at) ++ codes "^\n"

-- REFUSED of ITEMS items refused
abbrev pub total_text : ℕ → ℕ → List ℕ
total_text refused items =
    decimal refused ++ codes " of " ++ decimal items ++ codes " items refused\n"
