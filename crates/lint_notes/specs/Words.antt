-- Names, selects and brackets among the tokens of a text.
use Rattle.std.specs.Prelude.{ℕ, ◌+◌, ◌-◌, ◌*◌, List, [], ◌∷◌, Bool, true, false, not, ◌&&◌, ◌||◌}
use Rattle.std.specs.Prelude.{◌==◌, Option, Some, None, take, drop, length, count_by, codes}
use Rattle.std.specs.Prelude.{slice_index_or, nat_le, if◌then◌else◌}
use Rattle.std.specs.List.{prefix_len, list_any}
use Rattle.std.specs.Str.{bytes_eq}
use Rattle.std.specs.Char.{is_ascii_alphanumeric}
use Rattle.lexer.specs.declared.token.Token.{Token}
use Rattle.lexer.specs.declared.token.Kind.{Kind}
use Rattle.lexer.specs.declared.token.Kind.TheVariants as kinds

-- whether a token is this text
abbrev pub is : List ℕ → Token → Bool
is text token = bytes_eq token.text.now text

abbrev pub is_word_kind : Kind → Bool
is_word_kind kinds.Word = true
is_word_kind _ = false

-- a byte of a path: of a word, or the dot between two
abbrev pub is_path_byte : ℕ → Bool
is_path_byte b = is_ascii_alphanumeric b || b == 95 || b == 36 || b == 46

-- the path that begins at a byte of a text
abbrev pub path_at : List ℕ → ℕ → List ℕ
path_at text at = take (prefix_len is_path_byte (drop at text)) (drop at text)

-- whether a name begins with a token: it is a word that no dot stands before
abbrev pub begins_name : List ℕ → Token → Bool
begins_name text token =
    is_word_kind token.kind && not (nat_le 1 token.at && slice_index_or text (token.at - 1) 0 == 46)

-- how many tokens a path has: its words, and the dots between them
abbrev pub path_tokens : List ℕ → ℕ
path_tokens path = 1 + 2 * count_by (λ b. b == 46) path

-- the tokens after a name with which tokens begin
abbrev pub after_name : List ℕ → List Token → List Token
after_name text [] = []
after_name text (t ∷ ts) = drop (path_tokens (path_at text t.at)) (t ∷ ts)

-- whether a path is among some
abbrev pub is_among : List (List ℕ) → List ℕ → Bool
is_among paths path = list_any (bytes_eq path) paths

-- whether a token begins a name that is one of some paths
abbrev pub names_one : List ℕ → List (List ℕ) → Token → Bool
names_one text paths token = begins_name text token && is_among paths (path_at text token.at)

-- the value of a number
abbrev pub kind_value : Kind → Option ℕ
kind_value (kinds.Number n) = Some n.value
kind_value _ = None

abbrev pub number_value : Token → Option ℕ
number_value token = kind_value token.kind

-- how many tokens there are up to the bracket that closes the first one, where so many are not
-- closed
abbrev pub closing : ℕ → List Token → ℕ
closing deep [] = 0
closing deep (t ∷ ts) =
    if is (codes "(") t then 1 + closing (deep + 1) ts
    else (if is (codes ")") t then (if nat_le deep 1 then 1 else 1 + closing (deep - 1) ts)
    else 1 + closing deep ts)
