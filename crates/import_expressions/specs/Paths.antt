-- Paths as rules spell them (IEEE 1800-2017, 5.6.1, 23.3.1 and 23.6).
use Rattle.std.specs.Prelude.{ℕ, List, [], ◌∷◌, ◌++◌, ◌&&◌, Bool, true, false, Option, None, Some}
use Rattle.std.specs.Prelude.{if◌then◌else◌, ◌==◌, flat_map, drop, length, nat_eq, codes}
use Rattle.std.specs.List.{starts_with}
use Rattle.import_trees.specs.Names.{plain_name}
use Rattle.import_tokens.specs.declared.token.Token.{Token}

abbrev pub word_of : Token → List ℕ
word_of token = plain_name token.text.now

-- whether "$root" stands before the names of a path, which is then whole
abbrev pub is_rooted : List Token → Bool
is_rooted [] = false
is_rooted (token ∷ tokens) =
    starts_with nat_eq token.text.now (codes "$root") && length token.text.now == 5

-- the names and dots of a path, without "$root." before them
abbrev pub from_root : List Token → List Token
from_root tokens = if is_rooted tokens then drop 2 tokens else tokens

abbrev pub is_dot_or_end : List ℕ → Bool
is_dot_or_end [] = true
is_dot_or_end (b ∷ bs) = b == 46

-- whether this is the first word of a path
abbrev pub has_first : List ℕ → List ℕ → Bool
has_first word path =
    starts_with nat_eq path word && is_dot_or_end (drop (length word) path)

abbrev pub first_of : List Token → List ℕ
first_of [] = []
first_of (token ∷ tokens) = word_of token

-- What stands before a path that has no "$root": the scope and a dot, unless the path begins with
-- the first word of the scope (own).
abbrev pub before : Option (List ℕ) → List Token → List ℕ
before None tokens = []
before (Some scope) tokens =
    if is_rooted tokens then [] else if has_first (first_of tokens) scope then []
    else scope ++ codes "."

-- a path as rules spell it
abbrev pub spelled_path : Option (List ℕ) → List Token → List ℕ
spelled_path scope tokens = before scope tokens ++ flat_map word_of (from_root tokens)
