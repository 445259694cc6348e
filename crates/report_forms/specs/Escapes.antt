-- Texts as values of XML attributes (XML 1.0, fifth edition), in characters: how they are written,
-- and what a reader takes them for.
use Rattle.std.specs.Prelude.{ℕ, ◌+◌, ◌-◌, ◌*◌, List, [], ◌∷◌, ◌++◌, Bool, ◌==◌, ◌&&◌, ◌||◌}
use Rattle.std.specs.Prelude.{Option, Some, None, if◌then◌else◌, codes, nat_le}
use Rattle.std.specs.Prelude.{fold, option_and_then, option_map, flat_map, chars, bytes_eq}
use Rattle.std.specs.Prelude.{encode_utf8_all, not}
use Rattle.std.specs.List.{list_all}
use Rattle.std.specs.Char.{is_ascii_digit}

-- Char, production 2: what a document may have
abbrev pub is_xml_char : ℕ → Bool
is_xml_char c =
    (c == 9) || (c == 10) || (c == 13) || (nat_le 0x20 c && nat_le c 0xd7ff)
    || (nat_le 0xe000 c && nat_le c 0xfffd) || (nat_le 0x10000 c && nat_le c 0x10ffff)

-- what is told of a character: U+FFFD where a document can't have it
abbrev pub told_char : ℕ → ℕ
told_char c = if is_xml_char c then c else 0xfffd

-- what stands for a character
unfoldable pub escaped_char : ℕ → List ℕ
escaped_char c =
    if c == 34 then codes "&quot;"
    else if c == 38 then codes "&amp;"
    else if c == 60 then codes "&lt;"
    else if c == 62 then codes "&gt;"
    else if c == 9 then codes "&#9;"
    else if c == 10 then codes "&#10;"
    else if c == 13 then codes "&#13;"
    else told_char c ∷ []

-- the characters that stand for those of a text
abbrev pub escaped_chars : List ℕ → List ℕ
escaped_chars = flat_map escaped_char

-- the bytes that stand for those of a text
abbrev pub escaped : List ℕ → List ℕ
escaped text = encode_utf8_all (escaped_chars (chars text))

-- CharRef, production 66, in decimal
abbrev pub numbered : List ℕ → Option ℕ
numbered [] = None
numbered (c ∷ digits) =
    if (c == 35) && list_all is_ascii_digit digits
    then Some (fold (λ n digit. n * 10 + (digit - 48)) 0 digits)
    else None

-- the character that a reference of this name is for: clause 4.6's five names, or a number
abbrev pub referred : List ℕ → Option ℕ
referred name =
    if bytes_eq name (codes "quot") then Some 34
    else if bytes_eq name (codes "amp") then Some 38
    else if bytes_eq name (codes "lt") then Some 60
    else if bytes_eq name (codes "gt") then Some 62
    else if bytes_eq name (codes "apos") then Some 39
    else numbered name

-- where a reader is: in text, or in a reference, with the characters of its name so far
pub data Within : Type 0 where
  plain : Within
  reference : List ℕ → Within

abbrev pub is_white : ℕ → Bool
is_white c = (c == 32) || (c == 9) || (c == 10) || (c == 13)

-- one character more in front of what was read
abbrev pub say : ℕ → Option (List ℕ × List ℕ) → Option (List ℕ × List ℕ)
say c r = option_map (λ p. (c ∷ p.0, p.1)) r

-- The value that a reader takes characters for, up to the closing quotation mark, and what is
-- after that (AttValue, production 10; clause 3.3.3: white space that stands there by itself is
-- a space). None where that is no value.
unfoldable pub unescaped : Within → List ℕ → Option (List ℕ × List ℕ)
unescaped plain [] = None
unescaped plain (c ∷ cs) =
    if c == 34 then Some ([], cs)
    else if c == 38 then unescaped (reference []) cs
    else if is_white c then say 32 (unescaped plain cs)
    else if (c == 60) || not (is_xml_char c) then None
    else say c (unescaped plain cs)
unescaped (reference name) [] = None
unescaped (reference name) (c ∷ cs) =
    if c == 59 then option_and_then (λ d. say d (unescaped plain cs)) (referred name)
    else unescaped (reference (name ++ c ∷ [])) cs
