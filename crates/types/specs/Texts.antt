-- The items of a text by their kinds, their names and their places.
use Rattle.std.specs.Prelude.{ℕ, ◌+◌, List, [], ◌∷◌, ◌++◌, Option, Some, None, codes, Bool}
use Rattle.std.specs.Prelude.{true, false}
use Rattle.std.specs.Prelude.{bytes_eq, if◌then◌else◌}
use Rattle.std.specs.List.{list_any}
use Rattle.std.specs.Fmt.{decimal}
use Rattle.lexer.specs.declared.token.Token.{Token}
use Rattle.parser_grammar.specs.Trees.{Tree, number, path, concatenation, past, call, unary, chain}
use Rattle.parser_grammar.specs.Trees.{choice}
use Rattle.parser_grammar.specs.Trees.{SequenceForm, boolean, repeated, late, delayed, throughout}
use Rattle.parser_grammar.specs.Trees.{joined}
use Rattle.parser_grammar.specs.Trees.{CounterForm, DeclarationForm, AssertionForm, ItemForm}
use Rattle.parser_grammar.specs.Trees.{counter, declaration, assertion}
use Rattle.types_names.specs.Scopes.{path_text, first_byte}

-- the items of each kind, in the order of the text
abbrev pub declarations_of : List ItemForm → List DeclarationForm
declarations_of [] = []
declarations_of (counter c ∷ items) = declarations_of items
declarations_of (declaration d ∷ items) = d ∷ declarations_of items
declarations_of (assertion a ∷ items) = declarations_of items

abbrev pub counters_of : List ItemForm → List CounterForm
counters_of [] = []
counters_of (counter c ∷ items) = c ∷ counters_of items
counters_of (declaration d ∷ items) = counters_of items
counters_of (assertion a ∷ items) = counters_of items

abbrev pub assertions_of : List ItemForm → List AssertionForm
assertions_of [] = []
assertions_of (counter c ∷ items) = assertions_of items
assertions_of (declaration d ∷ items) = assertions_of items
assertions_of (assertion a ∷ items) = a ∷ assertions_of items

-- An assertion's name: its label, or assert_N where it has none; so many assertions stand before
-- it.
abbrev pub label_text : ℕ → Option Token → List ℕ
label_text before None = codes "assert_" ++ decimal (before + 1)
label_text before (Some t) = t.text.now

-- where its name stands: a made one at its verb
abbrev pub label_byte : AssertionForm → Option Token → ℕ
label_byte a None = a.verb.at
label_byte a (Some t) = t.at

-- The name that an item makes, with the byte where it stands. Counters, sequences and assertions
-- share one name space.
abbrev pub name_made : ℕ → ItemForm → List ℕ × ℕ
name_made before (counter c) = (c.name.text.now, c.name.at)
name_made before (declaration d) = (d.name.text.now, d.name.at)
name_made before (assertion a) = (label_text before a.label, label_byte a a.label)

-- how many assertions stand before the next item
abbrev pub assertions_after : ℕ → ItemForm → ℕ
assertions_after before (counter c) = before
assertions_after before (declaration d) = before
assertions_after before (assertion a) = before + 1

abbrev pub names_from : ℕ → List ItemForm → List (List ℕ × ℕ)
names_from before [] = []
names_from before (i ∷ items) = name_made before i ∷ names_from (assertions_after before i) items

abbrev pub is_among : List (List ℕ) → List ℕ → Bool
is_among known name = list_any (bytes_eq name) known

-- the places of names that stand before, or were known
abbrev pub repeated_names : List (List ℕ) → List (List ℕ × ℕ) → List ℕ
repeated_names known [] = []
repeated_names known (n ∷ names) =
    if is_among known n.0 then n.1 ∷ repeated_names known names
    else repeated_names (known ++ n.0 ∷ []) names

-- where a name is declared again (Y2)
abbrev pub duplicates : List ItemForm → List ℕ
duplicates items = repeated_names [] (names_from 0 items)

-- where a clock is another than the first (Y7): paths are compared by their words, which hold no
-- dots
abbrev pub clocks_unlike : List ℕ → List AssertionForm → List ℕ
clocks_unlike clock [] = []
clocks_unlike clock (a ∷ more) =
    if bytes_eq (path_text a.clock) clock then clocks_unlike clock more
    else first_byte a.clock ∷ clocks_unlike clock more

-- the clock of the first assertion
abbrev pub suite_clock : List AssertionForm → List ℕ
suite_clock [] = []
suite_clock (a ∷ more) = path_text a.clock

abbrev pub other_clocks : List AssertionForm → List ℕ
other_clocks some = clocks_unlike (suite_clock some) some

-- the first byte of an expression, and of a sequence, but for brackets
abbrev pub tree_byte : Tree → ℕ
tree_byte (number n t) = t.at
tree_byte (path words x) = first_byte words
tree_byte (concatenation t e parts) = t.at
tree_byte (past t e n) = t.at
tree_byte (call f t e) = t.at
tree_byte (unary op t e) = t.at
tree_byte (chain e links) = tree_byte e
tree_byte (choice c a b) = tree_byte c

abbrev pub sequence_byte : SequenceForm → ℕ
sequence_byte (boolean e) = tree_byte e
sequence_byte (repeated q n) = sequence_byte q
sequence_byte (late t n q) = t.at
sequence_byte (delayed q steps) = sequence_byte q
sequence_byte (throughout e q) = tree_byte e
sequence_byte (joined j q others) = sequence_byte q

-- where an antecedent begins, with the word "first_match" where it stands round it
abbrev pub led_byte : Option Token → SequenceForm → ℕ
led_byte None q = sequence_byte q
led_byte (Some word) q = word.at

abbrev pub is_led : Option Token → Bool
is_led None = false
is_led (Some word) = true
