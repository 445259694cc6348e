-- Which notes are told at the tokens of a text.
use Rattle.std.specs.Prelude.{◌≡◌, ℕ, ◌+◌, List, [], ◌∷◌, ◌++◌, Bool, true, false, ◌&&◌, ◌||◌}
use Rattle.std.specs.Prelude.{codes, ◌-◌, ◌==◌, not, length, drop}
use Rattle.std.specs.Prelude.{Option, Some, None, is_some, take, map, string_bytes, if◌then◌else◌}
use Rattle.std.specs.List.{list_any, suffix_len}
use Rattle.std.specs.Str.{bytes_eq}
use Rattle.lexer.specs.declared.token.Token.{Token}
use Rattle.lint_notes.specs.declared.note.Note.{Note}
use Rattle.lint_notes.specs.declared.facts.Turned.{Turned}
use Rattle.lint_notes.specs.declared.facts.Late.{Late}
use Rattle.lint_notes.specs.declared.facts.Facts.{Facts}
use Rattle.lint_notes.specs.declared.facts.PathFact.{PathFact}
use Rattle.lint_notes.specs.Words.{is, begins_name, path_at, after_name, is_among, names_one}
use Rattle.lint_notes.specs.Words.{closing, number_value}

-- a note's number, and the byte where it stands
abbrev pub Key : Type 0
Key = ℕ × ℕ

abbrev pub key_of : Note → Key
key_of n = (n.number, n.at)

-- the paths of names with another range than [n:0]
abbrev pub turned_paths : List Turned → List (List ℕ)
turned_paths turned = map (λ t. string_bytes t.path) turned

-- the paths of signals whose first value comes after the dump's first time
abbrev pub late_paths : List Late → List (List ℕ)
late_paths late = map (λ l. string_bytes l.path) late

-- whether a select stands first: a square bracket, and a number
abbrev pub is_select : List Token → Bool
is_select (bracket ∷ high ∷ ts) = is (codes "[") bracket && is_some (number_value high)
is_select _ = false

-- note 1, where tokens begin with a select of a name with another range
abbrev pub has_range_note : List ℕ → List (List ℕ) → List Token → Bool
has_range_note text turned [] = false
has_range_note text turned (t ∷ ts) =
    names_one text turned t && is_select (after_name text (t ∷ ts))

-- the functions that look at the clock before, or further back
abbrev pub looks_back : Token → Bool
looks_back t =
    list_any (bytes_eq t.text.now)
    (codes "$past" ∷ codes "$rose" ∷ codes "$fell" ∷ codes "$stable" ∷ codes "$changed" ∷ [])

-- note 3, where tokens begin with such a call, and a late signal is named up to its last bracket
abbrev pub has_late_note : List ℕ → List (List ℕ) → List Token → Bool
has_late_note text late [] = false
has_late_note text late (t ∷ ts) =
    looks_back t && list_any (names_one text late) (take (closing 0 ts) ts)

-- the tokens after one that may stand there
abbrev pub after_sign : List Token → List Token
after_sign [] = []
after_sign (t ∷ ts) = if is (codes "!") t || is (codes "~") t then ts else t ∷ ts

-- whether a lone name stands first that is this path, and then a closing bracket
abbrev pub is_closed : List Token → Bool
is_closed [] = false
is_closed (t ∷ ts) = is (codes ")") t

abbrev pub is_lone : List ℕ → List ℕ → List Token → Bool
is_lone text path [] = false
is_lone text path (t ∷ ts) =
    bytes_eq (path_at text t.at) path && is_closed (after_name text (t ∷ ts))

-- whether the disabling of an assertion stands first, by a path or its complement alone
abbrev pub is_disabled_by : List ℕ → List ℕ → List Token → Bool
is_disabled_by text path (close ∷ disable ∷ iff ∷ bracket ∷ ts) =
    is (codes "disable") disable && is (codes "iff") iff && is_lone text path (after_sign ts)
is_disabled_by text path _ = false

-- whether a clock stands first that disables the assertion, too
abbrev pub is_reset_clock : List ℕ → List Token → Bool
is_reset_clock text [] = false
is_reset_clock text (c ∷ ts) = is_disabled_by text (path_at text c.at) (after_name text (c ∷ ts))

-- what resets are called
abbrev pub reset_names : List (List ℕ)
reset_names =
    codes "rst" ∷ codes "rst_n" ∷ codes "rst_ni" ∷ codes "rstn" ∷ codes "nrst" ∷ codes "arst"
    ∷ codes "arst_n" ∷ codes "reset" ∷ codes "reset_n" ∷ codes "resetn" ∷ codes "areset"
    ∷ codes "aresetn" ∷ []

abbrev pub is_no_dot : ℕ → Bool
is_no_dot b = not (b == 46)

-- the last word of a path
abbrev pub last_word : List ℕ → List ℕ
last_word path = drop (length path - suffix_len is_no_dot path) path

-- whether a clock stands first that is called as resets are
abbrev pub is_reset_name : List ℕ → List Token → Bool
is_reset_name text [] = false
is_reset_name text (c ∷ ts) = list_any (bytes_eq (last_word (path_at text c.at))) reset_names

-- note 5, where tokens begin with `posedge` and such a clock
abbrev pub has_reset_note : List ℕ → List Token → Bool
has_reset_note text [] = false
has_reset_note text (t ∷ ts) =
    is (codes "posedge") t && (is_reset_clock text ts || is_reset_name text ts)

abbrev pub first_byte : List Token → ℕ
first_byte [] = 0
first_byte (t ∷ ts) = t.at

-- the key of a note, where there is one
abbrev pub note_keys : Option Note → List Key
note_keys None = []
note_keys (Some n) = key_of n ∷ []

-- a note, where there is one
abbrev pub key_when : Bool → ℕ → ℕ → List Key
key_when true number at = (number, at) ∷ []
key_when false number at = []

-- There is a note of this number at this byte, or there is none.
abbrev pub IsNoteWhen : Bool → ℕ → ℕ → Option Note → Type 0
IsNoteWhen told number at n = note_keys n ≡ key_when told number at

-- the notes that stand at the first of some tokens
unfoldable pub first_keys : List ℕ → Facts → List Token → List Key
first_keys text f ts =
    key_when (has_range_note text (turned_paths f.turned.now) ts) 1 (first_byte ts)
    ++ (key_when (has_late_note text (late_paths f.late.now) ts) 3 (first_byte ts)
    ++ key_when (has_reset_note text ts) 5 (first_byte ts))

-- the notes of all tokens, in their order
abbrev pub token_keys : List ℕ → Facts → List Token → List Key
token_keys text f [] = []
token_keys text f (t ∷ ts) = first_keys text f (t ∷ ts) ++ token_keys text f ts

-- where a path is first named; at the front of the text where it is not
abbrev pub first_read : List ℕ → List ℕ → List Token → ℕ
first_read text path [] = 0
first_read text path (t ∷ ts) =
    if names_one text (path ∷ []) t then t.at else first_read text path ts

-- the note of a fact of a path
abbrev pub fact_key : List ℕ → List Token → PathFact → Key
fact_key text tokens f = (f.number, first_read text (string_bytes f.path) tokens)
