-- Assertions of which no attempt was tried.
use Rattle.std.specs.Prelude.{ℕ, List, [], ◌∷◌, ◌++◌, Bool, false, not, ◌&&◌, ◌||◌, ◌==◌, nat_lt}
use Rattle.std.specs.Prelude.{Option, Some, None}
use Rattle.lexer.specs.declared.token.Token.{Token}
use Rattle.parser_grammar.specs.Trees as trees
use Rattle.parser_grammar.specs.Trees.{Tree, SequenceForm, PropertyForm, AssertionForm, ItemForm}
use Rattle.report_lines.specs.declared.line.Counts.{Counts}
use Rattle.report_lines.specs.declared.line.Line.{Line}
use Rattle.lint_notes.specs.declared.head.Head.{Head}
use Rattle.lint_notes.specs.Told.{Key, key_when}

-- the byte at which an assertion begins, and whether it says that its antecedent never matches
abbrev pub HeadData : Type 0
HeadData = ℕ × Bool

abbrev pub data_of : Head → HeadData
data_of h = (h.at, h.never)

abbrev pub label_byte : Option Token → Token → ℕ
label_byte None verb = verb.at
label_byte (Some label) verb = label.at

abbrev pub head_byte : AssertionForm → ℕ
head_byte a = label_byte a.label a.verb

abbrev pub is_zero_tree : Tree → Bool
is_zero_tree (trees.number n t) = n.value == 0
is_zero_tree _ = false

abbrev pub is_zero : SequenceForm → Bool
is_zero (trees.boolean e) = is_zero_tree e
is_zero _ = false

abbrev pub is_never : PropertyForm → Bool
is_never (trees.plain q) = false
is_never (trees.implication word a i c) = is_zero c

-- the assertions of items, in their order
abbrev pub heads : List ItemForm → List HeadData
heads [] = []
heads (trees.counter c ∷ items) = heads items
heads (trees.declaration d ∷ items) = heads items
heads (trees.assertion a ∷ items) = (head_byte a, is_never a.property) ∷ heads items

-- there are attempts, and all are vacuous or disabled
abbrev pub is_idle : Counts → Bool
is_idle c =
    c.holds == 0 && c.fails == 0 && c.still_open == 0
    && (nat_lt 0 c.vacuous || nat_lt 0 c.disabled)

-- note 4, at each assertion whose line has vacuous and disabled attempts alone, but where it says
-- that its antecedent never matches
abbrev pub idle_keys : List HeadData → List Line → List Key
idle_keys [] ls = []
idle_keys (h ∷ hs) [] = []
idle_keys (h ∷ hs) (l ∷ ls) =
    key_when (is_idle l.counts && not h.1) 4 h.0 ++ idle_keys hs ls
