-- A text with some of its assertions alone.
use Rattle.std.specs.Prelude.{◌≡◌, ℕ, ◌+◌, ◌-◌, List, [], ◌∷◌, ◌++◌, map, take, drop, length}
use Rattle.std.specs.Prelude.{Bool, not, ◌&&◌, if◌then◌else◌, nat_lt, Option, None, Ok}
use Rattle.std.specs.Prelude.{String, string_bytes, codes}
use Rattle.std.specs.List.{list_any, position_from}
use Rattle.std.specs.declared.alloc.Global.{Global}
use Rattle.lexer.specs.declared.token.Token.{Token}
use Rattle.lexer.specs.Cutting.{cut_of, tokens_of}
use Rattle.diagnostics.specs.Blanked.{blank_for}
use Rattle.diagnostics.specs.Items.{AreItemEnds}
use Rattle.source_files.specs.declared.added.Added.{Added}
use Rattle.source_files.specs.declared.choosing.Choice.{Choice}
use Rattle.source_files.specs.Globs.{means}
use Rattle.source_files.specs.Heads.{Head, heads}

-- the bytes from one up to another
abbrev pub between : List ℕ → ℕ → ℕ → List ℕ
between text start end = drop start (take end text)

-- whether one of some patterns means a name
abbrev pub is_meant : List (String Global) → List ℕ → Bool
is_meant patterns name = list_any (λ p. means (string_bytes p) name) patterns

-- the label that an assertion gets, if it has none
abbrev pub label_text : Head → List ℕ
label_text h = if h.is_made then h.name ++ codes ":" else []

-- what is left of an assertion: all, with its label, where its name is meant, and else blanks
abbrev pub item_text : List (String Global) → List ℕ → Head → List ℕ
item_text patterns text h =
    if is_meant patterns h.name
    then between text h.start h.first ++ label_text h ++ between text h.first h.end
    else map blank_for (between text h.start h.end)

-- what is left of a text from a byte on: all that stands between assertions, and what is left of
-- these
abbrev pub chosen_text : List (String Global) → List ℕ → ℕ → List Head → List ℕ
chosen_text patterns text at [] = drop at text
chosen_text patterns text at (h ∷ hs) =
    between text at h.start ++ item_text patterns text h ++ chosen_text patterns text h.end hs

-- what is added to a text: labels, each before the first token of its assertion
abbrev pub added_to : List (String Global) → List Head → List Added
added_to patterns [] = []
added_to patterns (h ∷ hs) =
    if h.is_made && is_meant patterns h.name
    then record { at = h.first; count = length h.name + 1; from = h.first } ∷ added_to patterns hs
    else added_to patterns hs

-- whether a pattern means one of some assertions
abbrev pub is_named : List ℕ → List Head → Bool
is_named pattern hs = list_any (λ h. means pattern h.name) hs

-- the first of some patterns that means none of some assertions
abbrev pub first_unmatched : List (String Global) → List Head → Option ℕ
first_unmatched patterns hs = position_from (λ p. not (is_named (string_bytes p) hs)) 0 patterns

-- which byte of a text before a byte was after bytes had been added, in the order of their places:
-- for one of those, the one that is told for them
abbrev pub place_before : List Added → ℕ → ℕ
place_before [] at = at
place_before (a ∷ added) at =
    if nat_lt at a.at
    then at
    else if nat_lt (at - a.at) a.count then a.from else place_before added (at - a.count)

-- What is left of a text that has tokens, by the names of its assertions.
pub record IsChosen (text : List ℕ) (patterns : List (String Global)) (choice : Choice) :
    Type 0 where
  pub tokens : List Token
  pub ends : List ℕ
  pub cut : tokens_of text ≡ Ok (map cut_of tokens)
  pub items : AreItemEnds text ends
  pub left : string_bytes choice.text ≡ chosen_text patterns text 0 (heads 0 0 tokens ends)
  pub more : choice.added.items ≡ added_to patterns (heads 0 0 tokens ends)
  pub none : choice.unmatched ≡ first_unmatched patterns (heads 0 0 tokens ends)

-- The text as it is.
pub record IsLeft (text : List ℕ) (choice : Choice) : Type 0 where
  pub same : string_bytes choice.text ≡ text
  pub more : choice.added.items ≡ []
  pub none : choice.unmatched ≡ None
