-- Names, and what they stand for.
use Rattle.std.specs.Prelude.{ℕ, ◌+◌, List, [], ◌∷◌, ◌++◌, Option, Some, None, codes, if◌then◌else◌}
use Rattle.std.specs.Prelude.{nat_le, ◌&&◌, Bool, true, bytes_eq}
use Rattle.std.specs.List.{flat_map}
use Rattle.std.specs.Map.{lookup}
use Rattle.lexer.specs.declared.token.Token.{Token}
use Rattle.parser_grammar.specs.Trees.{Tree, path, ItemForm, counter, declaration, assertion}
use Rattle.types_names.specs.declared.own.Own.{Own}
use Rattle.types_names.specs.declared.own.Own.TheVariants.{Counter, Sequence}
use Rattle.types_names.specs.declared.own.Meaning.{Meaning}
use Rattle.types_names.specs.declared.own.Meaning.TheVariants.{Signal, Own as Declared}

-- a path as it is written, its words joined by dots
abbrev pub path_text : List Token → List ℕ
path_text [] = []
path_text (t ∷ ts) = t.text.now ++ flat_map (λ w. codes "." ++ w.text.now) ts

-- the byte at which a path begins
abbrev pub first_byte : List Token → ℕ
first_byte [] = 0
first_byte (t ∷ ts) = t.at

-- A width of 1 to 128 bits. The lexer and the parser give no other; one would count as 1.
abbrev pub width_in : ℕ → ℕ
width_in w = if nat_le 1 w && nat_le w 128 then w else 1

-- the first with that name
abbrev pub look_up : {V : Type 0} → List (List ℕ × V) → List ℕ → Option V
look_up entries name = lookup (bytes_eq name) entries

-- The names of counters and sequences in the order of the text, so many counters and sequences
-- standing before. A label is no name.
abbrev pub owns_from : ℕ → ℕ → List ItemForm → List (List ℕ × Own)
owns_from counters sequences [] = []
owns_from counters sequences (counter c ∷ items) =
    (c.name.text.now, Counter counters (width_in c.width.value))
    ∷ owns_from (counters + 1) sequences items
owns_from counters sequences (declaration s ∷ items) =
    (s.name.text.now, Sequence sequences) ∷ owns_from counters (sequences + 1) items
owns_from counters sequences (assertion a ∷ items) = owns_from counters sequences items

abbrev pub owns : List ItemForm → List (List ℕ × Own)
owns items = owns_from 0 0 items

-- Where names are looked up: among those of the text's own, and among the dump's paths, which have
-- widths. With a name declared twice the first declaration counts.
pub record Scope : Type 0 where
  pub own : List ℕ → Option Own
  pub dump : List ℕ → Option ℕ

abbrev pub meaning_by : Option Own → Option ℕ → Option Meaning
meaning_by (Some o) width = Some (Declared o)
meaning_by None (Some width) = Some (Signal width)
meaning_by None None = None

-- what a path stands for: the text's own names come before the dump's
abbrev pub meaning : Scope → List Token → Option Meaning
meaning s words = meaning_by (s.own (path_text words)) (s.dump (path_text words))

-- the width of what an expression can read: a signal or a counter
abbrev pub bits_of : Option Meaning → Option ℕ
bits_of None = None
bits_of (Some (Signal width)) = Some width
bits_of (Some (Declared (Counter place width))) = Some width
bits_of (Some (Declared (Sequence place))) = None

abbrev pub meaning_place : Option Meaning → Option ℕ
meaning_place None = None
meaning_place (Some (Signal width)) = None
meaning_place (Some (Declared (Counter place width))) = None
meaning_place (Some (Declared (Sequence place))) = Some place

-- The named sequence that an expression is the name of, where it stands as a boolean of a sequence:
-- one word without a select.
abbrev pub sequence_named : Scope → Tree → Option ℕ
sequence_named s (path (t ∷ []) None) = meaning_place (meaning s (t ∷ []))
sequence_named s _ = None

-- a counter has 1 to 128 bits
abbrev pub is_fit : Own → Bool
is_fit (Counter place width) = nat_le 1 width && nat_le width 128
is_fit (Sequence place) = true

-- what an expression can read has 1 to 128 bits
abbrev pub is_narrow : Option ℕ → Bool
is_narrow None = true
is_narrow (Some width) = nat_le 1 width && nat_le width 128
