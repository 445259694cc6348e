-- Names in a port file.
use Rattle.std.specs.Prelude.{ℕ, ◌==◌, ◌||◌, ◌&&◌, List, [], ◌∷◌, Bool, false, not, codes}
use Rattle.std.specs.List.{list_all, list_any}
use Rattle.std.specs.Char.{is_ascii_alphabetic, is_ascii_digit}
use Rattle.std.specs.Str.{bytes_eq}
use Rattle.axi4_rules.specs.Texts.{pieces}

abbrev pub is_word_start : ℕ → Bool
is_word_start b = is_ascii_alphabetic b || (b == 95)

abbrev pub is_word_part : ℕ → Bool
is_word_part b = is_word_start b || is_ascii_digit b || (b == 36)

-- a letter or _, and then letters, digits, _ and $
unfoldable pub is_word : List ℕ → Bool
is_word [] = false
is_word (b ∷ bs) = is_word_start b && list_all is_word_part bs

-- the words that no path may begin with: those of the grammar of assertions, and those of
-- constructs that it leaves out
unfoldable pub keywords : List (List ℕ)
keywords =
    codes "sequence" ∷ codes "endsequence" ∷ codes "assert" ∷ codes "assume" ∷ codes "property"
    ∷ codes "posedge" ∷ codes "disable" ∷ codes "iff" ∷ codes "or" ∷ codes "and"
    ∷ codes "throughout" ∷ codes "intersect" ∷ codes "within" ∷ codes "first_match" ∷ codes "strong"
    ∷ codes "weak" ∷ codes "not" ∷ codes "if" ∷ codes "else" ∷ codes "case"
    ∷ codes "always" ∷ codes "nexttime" ∷ codes "eventually" ∷ codes "until" ∷ codes "s_always"
    ∷ codes "s_nexttime" ∷ codes "s_eventually" ∷ codes "s_until" ∷ codes "s_until_with"
    ∷ codes "until_with" ∷ codes "implies" ∷ codes "accept_on" ∷ codes "reject_on" ∷ codes "cover"
    ∷ codes "restrict" ∷ codes "default" ∷ codes "clocking" ∷ codes "negedge" ∷ codes "edge"
    ∷ codes "local" ∷ []

unfoldable pub is_keyword : List ℕ → Bool
is_keyword text = list_any (bytes_eq text) keywords

-- words; the first is no keyword
abbrev pub are_path_words : List (List ℕ) → Bool
are_path_words [] = false
are_path_words (word ∷ words) = not (is_keyword word) && list_all is_word (word ∷ words)

-- words with dots between them
unfoldable pub is_path : List ℕ → Bool
is_path text = are_path_words (pieces 46 text)
