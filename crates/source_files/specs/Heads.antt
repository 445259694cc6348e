-- What the assertions of a text are called.
use Rattle.std.specs.Prelude.{ℕ, ◌+◌, List, [], ◌∷◌, ◌++◌, length, codes, string_bytes, nat_lt}
use Rattle.std.specs.Prelude.{Bool, false, not, ◌||◌, if◌then◌else◌, Option, Some, None, is_some}
use Rattle.std.specs.Prelude.{option_map, option_to_list}
use Rattle.std.specs.Option.{option_map_or}
use Rattle.std.specs.Str.{bytes_eq}
use Rattle.std.specs.Fmt.{decimal}
use Rattle.lexer.specs.declared.token.Token.{Token}
use Rattle.source_files.specs.declared.heads.Named.{Named}

-- the tokens from a byte on
abbrev pub from : ℕ → List Token → List Token
from start [] = []
from start (t ∷ ts) = if nat_lt t.at start then from start ts else t ∷ ts

-- the label that stands first: what stands before a colon
abbrev pub label_of : List Token → Option (List ℕ)
label_of [] = None
label_of (t ∷ []) = None
label_of (t ∷ u ∷ ts) = if bytes_eq u.text.now (codes ":") then Some t.text.now else None

-- whether the word that begins an assertion without a label stands first
abbrev pub is_verb : List Token → Bool
is_verb [] = false
is_verb (t ∷ ts) = bytes_eq t.text.now (codes "assert") || bytes_eq t.text.now (codes "assume")

-- the byte at which the first token stands
abbrev pub first_byte : List Token → ℕ
first_byte [] = 0
first_byte (t ∷ ts) = t.at

-- what an assertion without a label is called, by its number
abbrev pub made_name : ℕ → List ℕ
made_name number = codes "assert_" ++ decimal number

-- what the assertion of a number is called, if one stands first
abbrev pub name_of : ℕ → List Token → Option (List ℕ)
name_of number ts =
    option_map_or (λ label. Some label)
    (label_of ts) (if is_verb ts then Some (made_name number) else None)

-- An assertion: its bytes, from `start` up to `end`, the byte of its first token, what it is
-- called, and whether the text has no label for it.
pub record Head : Type 0 where
  pub start : ℕ
  pub end : ℕ
  pub first : ℕ
  pub name : List ℕ
  pub is_made : Bool

abbrev pub head_of : Named → Head
head_of n = record {
  start = n.start;
  end = n.end;
  first = n.first;
  name = string_bytes n.name;
  is_made = n.is_made;
}

-- the assertion of a number, if the item that begins with these tokens is one
abbrev pub head : ℕ → ℕ → ℕ → List Token → Option Head
head number start end ts = option_map (λ name. record {
  start = start;
  end = end;
  first = first_byte ts;
  name = name;
  is_made = not (is_some (label_of ts));
}) (name_of number ts)

-- the assertions among items that end there, of which so many stood before
abbrev pub heads : ℕ → ℕ → List Token → List ℕ → List Head
heads before start ts [] = []
heads before start ts (end ∷ ends) =
    let found = option_to_list (head (before + 1) start end (from start ts)) in
    found ++ heads (before + length found) end (from start ts) ends
