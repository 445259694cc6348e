-- The grammar of files as functions.
use Rattle.std.specs.Prelude.{◌≡◌, ℕ, List, [], ◌∷◌, Bool, true, false, not, ◌&&◌, ◌||◌, Option}
use Rattle.std.specs.Prelude.{Some, None, if◌then◌else◌}
use Rattle.std.specs.Str.{bytes_eq}
use Rattle.lexer.specs.declared.token.Token.{Token}
use Rattle.parser_grammar.specs.declared.bound.Bound.{Bound}
use Rattle.parser_grammar.specs.declared.terminal.Terminal.{Terminal}
use Rattle.parser_grammar.specs.declared.terminal.Terminal.TheVariants as word
use Rattle.parser_grammar.specs.declared.terminal.Terminal.TheVariants.{OpenRound, CloseRound}
use Rattle.parser_grammar.specs.declared.terminal.Terminal.TheVariants.{OpenSquare}
use Rattle.parser_grammar.specs.declared.terminal.Terminal.TheVariants.{CloseSquare, Comma}
use Rattle.parser_grammar.specs.declared.terminal.Terminal.TheVariants.{Semicolon}
use Rattle.parser_grammar.specs.declared.terminal.Terminal.TheVariants.{Colon, AtSign, Posedge}
use Rattle.parser_grammar.specs.declared.terminal.Terminal.TheVariants.{Disable}
use Rattle.parser_grammar.specs.declared.terminal.Terminal.TheVariants.{Iff, EndSequence, End}
use Rattle.parser_grammar.specs.Terminals.{terminal, is, is_name, is_word}
use Rattle.parser_grammar.specs.Bounds.{bound_within}
use Rattle.parser_grammar.specs.Trees.{Tree, PropertyForm, ItemForm, counter, declaration}
use Rattle.parser_grammar.specs.Trees.{assertion}
use Rattle.parser_grammar.specs.Readers.{◌>>=◌, Reader, lead, expect, pick, optional, each}
use Rattle.parser_grammar.specs.ReadExpressions.{name_of, path_words, expression}
use Rattle.parser_grammar.specs.ReadSequences.{whole, property}
use Rattle.parser_grammar.specs.Files.{most_open, in_one, in_two}

-- after a word: "(" expr ")"
unfoldable pub one_operand : ℕ → Reader Tree
one_operand d ts =
    expect OpenRound ts >>= λ o. expression d o.1
    >>= λ p. expect CloseRound p.1 >>= λ r. Some (p.0, r.1)

-- after a word: "(" expr "," expr ")"
unfoldable pub two_operands : Reader (Tree × Tree)
two_operands ts =
    expect OpenRound ts >>= λ o. expression in_one o.1 >>= λ p. expect Comma p.1
    >>= λ m. expression in_one m.1 >>= λ q. expect CloseRound q.1 >>= λ r. Some ((p.0, q.0), r.1)

-- NAME "[" NUM "]"
unfoldable pub counter_head : Reader (Token × Bound)
counter_head ts =
    pick name_of ts >>= λ n. expect OpenSquare n.1 >>= λ o. pick (bound_within 1 128) o.1
    >>= λ w. expect CloseSquare w.1 >>= λ r. Some ((n.0, w.0), r.1)

abbrev pub counter_form : Token → Bound → Option Tree → Option (Tree × Tree) → Option (Tree × Tree)
    → Option (Tree × Tree) → ItemForm
counter_form name width clear load add sub =
    counter
    (record { name = name; width = width; clear = clear; load = load; add = add; sub = sub })

-- after "counter"
unfoldable pub counter_item : Reader ItemForm
counter_item ts =
    counter_head ts >>= λ h. optional word.Clear (one_operand in_one) h.1
    >>= λ a. optional word.Load two_operands a.1 >>= λ b. optional word.Add two_operands b.1
    >>= λ c. optional word.Sub two_operands c.1
    >>= λ d. expect Semicolon d.1 >>= λ r. Some (counter_form h.0.0 h.0.1 a.0 b.0 c.0 d.0, r.1)

-- the name once more
unfoldable pub again_of : Token → Token → Option Token
again_of name t = if is_word t && bytes_eq t.text.now name.text.now then Some t else None

abbrev pub skip_by : Option (Token × List Token) → List Token → List Token
skip_by None ts = ts
skip_by (Some p) ts = p.1

-- the tokens after the terminal, if it stands there
unfoldable pub skip : Terminal → List Token → List Token
skip wanted ts = skip_by (expect wanted ts) ts

-- after a declaration's seq
unfoldable pub ending_of : Token → List Token → Option (List Token)
ending_of name ts =
    expect EndSequence (skip Semicolon ts) >>= λ e. optional Colon (pick (again_of name)) e.1
    >>= λ q. Some q.1

-- after "sequence"
unfoldable pub declaration_item : Reader ItemForm
declaration_item ts =
    pick name_of ts >>= λ n. expect Semicolon n.1
    >>= λ o. whole most_open o.1 >>= λ p. ending_of n.0 p.1
    >>= λ rest. Some (declaration (record { name = n.0; body = p.0 }), rest)

unfoldable pub is_verb_token : Token → Bool
is_verb_token t = is word.Assert t || is word.Assume t

-- "property" "("
unfoldable pub opening_words : List Token → Option (List Token)
opening_words ts = expect word.Property ts >>= λ a. expect OpenRound a.1 >>= λ b. Some b.1

-- "@" "(" "posedge" path ")"
unfoldable pub clock_words : Reader (List Token)
clock_words ts =
    expect AtSign ts >>= λ a. expect OpenRound a.1 >>= λ b. expect Posedge b.1
    >>= λ c. path_words c.1 >>= λ p. expect CloseRound p.1 >>= λ r. Some (p.0, r.1)

-- after "disable"
unfoldable pub disable_reader : Reader Tree
disable_reader ts = expect Iff ts >>= λ i. one_operand in_two i.1

-- prop ")" ";"
unfoldable pub property_end : Reader PropertyForm
property_end ts =
    property in_one ts >>= λ p. expect CloseRound p.1
    >>= λ a. expect Semicolon a.1 >>= λ r. Some (p.0, r.1)

abbrev pub assertion_form : Option Token → Token → List Token → Option Tree → PropertyForm
    → ItemForm
assertion_form label verb clock disable p =
    assertion
    (record { label = label; verb = verb; clock = clock; disable = disable; property = p })

-- from "assert" or "assume" on
unfoldable pub assertion_item : Option Token → Reader ItemForm
assertion_item label ts =
    lead is_verb_token ts >>= λ v. opening_words v.1 >>= λ us. clock_words us
    >>= λ c. optional Disable disable_reader c.1 >>= λ d. property_end d.1
    >>= λ p. Some (assertion_form label v.0 c.0 d.0 p.0, p.1)

abbrev pub labelled_by : Option (Token × List Token) → Reader ItemForm
labelled_by None ts = assertion_item None ts
labelled_by (Some n) ts = expect Colon n.1 >>= λ r. assertion_item (Some n.0) r.1

-- an assertion, with its label
unfoldable pub label_reader : Reader ItemForm
label_reader ts = labelled_by (lead is_name ts) ts

abbrev pub declared_by : Option (Token × List Token) → Reader ItemForm
declared_by None ts = label_reader ts
declared_by (Some w) ts = declaration_item w.1

-- a declaration or an assertion
unfoldable pub declaration_reader : Reader ItemForm
declaration_reader ts = declared_by (expect word.Sequence ts) ts

-- "counter" before ":" is a label
abbrev pub counted_by : Option (Token × List Token) → List Token → Reader ItemForm
counted_by (Some colon) us ts = declaration_reader ts
counted_by None us ts = counter_item us

abbrev pub item_by : Option (Token × List Token) → Reader ItemForm
item_by None ts = declaration_reader ts
item_by (Some w) ts = counted_by (expect Colon w.1) w.1 ts

-- item
unfoldable pub item : Reader ItemForm
item ts = item_by (expect word.Counter ts) ts

abbrev pub asserts : List ItemForm → Bool
asserts [] = false
asserts (counter c ∷ more) = asserts more
asserts (declaration s ∷ more) = asserts more
asserts (assertion a ∷ more) = true

unfoldable pub is_more : Token → Bool
is_more t = not (is End t)

-- item*, up to the end
unfoldable pub items : Reader (List ItemForm)
items ts = each is_more (λ t us. item (t ∷ us)) ts

-- The tokens are read as the items, one of which is an assertion, up to the token of the text's
-- end.
pub record ReadsFile (xs : List ItemForm) (tokens : List Token) : Type 0 where
  pub last : Token
  pub ends : terminal last ≡ End
  pub read : items tokens ≡ Some (xs, last ∷ [])
  pub asserted : asserts xs ≡ true
