-- The grammar of whole files, rule by rule.
use Rattle.std.specs.Prelude.{◌≡◌, ◌⊎◌, ℕ, List, [], ◌∷◌, true, Option, Some, None}
use Rattle.std.specs.Str.{bytes_eq}
use Rattle.lexer.specs.declared.token.Token.{Token}
use Rattle.parser_grammar.specs.declared.bound.Bound.{Bound}
use Rattle.parser_grammar.specs.declared.terminal.Terminal.{Terminal}
use Rattle.parser_grammar.specs.declared.terminal.Terminal.TheVariants as word
use Rattle.parser_grammar.specs.declared.terminal.Terminal.TheVariants.{OpenRound, CloseRound}
use Rattle.parser_grammar.specs.declared.terminal.Terminal.TheVariants.{OpenSquare}
use Rattle.parser_grammar.specs.declared.terminal.Terminal.TheVariants.{CloseSquare, Comma}
use Rattle.parser_grammar.specs.declared.terminal.Terminal.TheVariants.{Semicolon}
use Rattle.parser_grammar.specs.declared.terminal.Terminal.TheVariants.{Colon, AtSign, Posedge}
use Rattle.parser_grammar.specs.declared.terminal.Terminal.TheVariants.{Disable}
use Rattle.parser_grammar.specs.declared.terminal.Terminal.TheVariants.{Iff, EndSequence, End}
use Rattle.parser_grammar.specs.Terminals.{terminal, is_name, is_word}
use Rattle.parser_grammar.specs.Bounds.{bound_within}
use Rattle.parser_grammar.specs.Trees.{Tree, SequenceForm, PropertyForm, CounterForm}
use Rattle.parser_grammar.specs.Trees.{DeclarationForm}
use Rattle.parser_grammar.specs.Trees.{AssertionForm, ItemForm, counter, declaration, assertion}
use Rattle.parser_grammar.specs.Expressions.{IsPath, Spells}
use Rattle.parser_grammar.specs.Sequences.{IsSequence, IsProperty}

-- The most brackets and unfinished unary operators, "?" and "throughout" that are open at once. The
-- bracket of a counter's clause, of a clock, of a "disable iff" and that of "property" are among
-- them.
abbrev pub most_open : ℕ
most_open = 64

abbrev pub in_one : ℕ
in_one = 63

abbrev pub in_two : ℕ
in_two = 62

-- ["clear" "(" expr ")"]
pub data IsClear : Option Tree → List Token → List Token → Type 0 where
  no_clear : {ts : List Token} → IsClear None ts ts
  clear : {w left right : Token} {e : Tree} {ts rest : List Token}
      → terminal w ≡ word.Clear → terminal left ≡ OpenRound → Spells in_one e ts (right ∷ rest)
      → terminal right ≡ CloseRound → IsClear (Some e) (w ∷ left ∷ ts) rest

-- [word "(" expr "," expr ")"]
pub data IsClause : Terminal → Option (Tree × Tree) → List Token → List Token → Type 0 where
  no_clause : {which : Terminal} {ts : List Token} → IsClause which None ts ts
  clause : {which : Terminal} {w left comma right : Token} {a b : Tree} {ts us rest : List Token}
      → terminal w ≡ which → terminal left ≡ OpenRound → Spells in_one a ts (comma ∷ us)
      → terminal comma ≡ Comma → Spells in_one b us (right ∷ rest) → terminal right ≡ CloseRound
      → IsClause which (Some (a, b)) (w ∷ left ∷ ts) rest

-- counter = "counter" NAME "[" NUM "]" ["clear" "(" expr ")"] ["load" "(" expr "," expr ")"]
--           ["add" "(" expr "," expr ")"] ["sub" "(" expr "," expr ")"] ";",
--           the width from 1 to 128
pub data SpellsCounter : CounterForm → List Token → List Token → Type 0 where
  is_counter : {w name left n right semicolon : Token} {width : Bound} {clear : Option Tree}
      {load add sub : Option (Tree × Tree)} {ts us vs ws rest : List Token}
      → terminal w ≡ word.Counter → is_name name ≡ true → terminal left ≡ OpenSquare
      → bound_within 1 128 n ≡ Some width → terminal right ≡ CloseSquare
      → IsClear clear ts us → IsClause word.Load load us vs → IsClause word.Add add vs ws
      → IsClause word.Sub sub ws (semicolon ∷ rest) → terminal semicolon ≡ Semicolon
      → SpellsCounter
      (record { name = name; width = width; clear = clear; load = load; add = add; sub = sub })
      (w ∷ name ∷ left ∷ n ∷ right ∷ ts) rest

-- [":" NAME], the sequence's own
pub data IsClosing : Token → List Token → List Token → Type 0 where
  no_closing : {name : Token} {ts : List Token} → IsClosing name ts ts
  closing : {name colon again : Token} {rest : List Token}
      → terminal colon ≡ Colon → is_word again ≡ true
      → bytes_eq again.text.now name.text.now ≡ true
      → IsClosing name (colon ∷ again ∷ rest) rest

-- [";"] "endsequence" [":" NAME]
pub data IsEnding : Token → List Token → List Token → Type 0 where
  ending : {name e : Token} {ts rest : List Token}
      → terminal e ≡ EndSequence → IsClosing name ts rest → IsEnding name (e ∷ ts) rest
  with_semicolon : {name semicolon e : Token} {ts rest : List Token}
      → terminal semicolon ≡ Semicolon → terminal e ≡ EndSequence → IsClosing name ts rest
      → IsEnding name (semicolon ∷ e ∷ ts) rest

-- sequence = "sequence" NAME ";" seq [";"] "endsequence" [":" NAME]
pub data SpellsDeclaration : DeclarationForm → List Token → List Token → Type 0 where
  is_declaration : {w name semicolon : Token} {body : SequenceForm} {ts us rest : List Token}
      → terminal w ≡ word.Sequence → is_name name ≡ true → terminal semicolon ≡ Semicolon
      → IsSequence most_open body ts us → IsEnding name us rest
      → SpellsDeclaration (record { name = name; body = body }) (w ∷ name ∷ semicolon ∷ ts) rest

-- "assert" | "assume"
abbrev pub is_verb : Terminal → Type 0
is_verb w = (w ≡ word.Assert) ⊎ (w ≡ word.Assume)

-- ["disable" "iff" "(" expr ")"]
pub data IsDisable : Option Tree → List Token → List Token → Type 0 where
  no_disable : {ts : List Token} → IsDisable None ts ts
  disable : {w iff left right : Token} {e : Tree} {ts rest : List Token}
      → terminal w ≡ Disable → terminal iff ≡ Iff → terminal left ≡ OpenRound
      → Spells in_two e ts (right ∷ rest) → terminal right ≡ CloseRound
      → IsDisable (Some e) (w ∷ iff ∷ left ∷ ts) rest

-- [NAME ":"]
pub data IsLabel : Option Token → List Token → List Token → Type 0 where
  no_label : {ts : List Token} → IsLabel None ts ts
  label : {name colon : Token} {rest : List Token}
      → is_name name ≡ true → terminal colon ≡ Colon
      → IsLabel (Some name) (name ∷ colon ∷ rest) rest

-- assertion = [NAME ":"] ("assert" | "assume") "property" "(" "@" "(" "posedge" path ")"
--             ["disable" "iff" "(" expr ")"] prop ")" ";"
pub data SpellsAssertion : AssertionForm → List Token → List Token → Type 0 where
  is_assertion : {label : Option Token}
      {verb property left at_sign round posedge right last semicolon : Token}
      {clock : List Token} {disable : Option Tree} {p : PropertyForm}
      {ts us vs ws rest : List Token}
      → IsLabel label ts (verb ∷ property ∷ left ∷ at_sign ∷ round ∷ posedge ∷ us)
      → is_verb (terminal verb) → terminal property ≡ word.Property → terminal left ≡ OpenRound
      → terminal at_sign ≡ AtSign → terminal round ≡ OpenRound → terminal posedge ≡ Posedge
      → IsPath clock us (right ∷ vs) → terminal right ≡ CloseRound
      → IsDisable disable vs ws → IsProperty in_one p ws (last ∷ semicolon ∷ rest)
      → terminal last ≡ CloseRound → terminal semicolon ≡ Semicolon
      → SpellsAssertion
      (record { label = label; verb = verb; clock = clock; disable = disable; property = p })
      ts rest

-- item = counter | sequence | assertion
pub data SpellsItem : ItemForm → List Token → List Token → Type 0 where
  a_counter : {c : CounterForm} {ts rest : List Token}
      → SpellsCounter c ts rest → SpellsItem (counter c) ts rest
  a_declaration : {s : DeclarationForm} {ts rest : List Token}
      → SpellsDeclaration s ts rest → SpellsItem (declaration s) ts rest
  an_assertion : {a : AssertionForm} {ts rest : List Token}
      → SpellsAssertion a ts rest → SpellsItem (assertion a) ts rest

-- item*
pub data AreItems : List ItemForm → List Token → List Token → Type 0 where
  no_item : {ts : List Token} → AreItems [] ts ts
  one_item : {i : ItemForm} {more : List ItemForm} {ts us rest : List Token}
      → SpellsItem i ts us → AreItems more us rest → AreItems (i ∷ more) ts rest

abbrev pub HasAssertion : List ItemForm → Type 0
HasAssertion [] = ⊥
HasAssertion (counter c ∷ more) = HasAssertion more
HasAssertion (declaration s ∷ more) = HasAssertion more
HasAssertion (assertion a ∷ more) = Unit {0}

-- file = item*, one of which is an assertion. The tokens end with that of the text's end.
pub record IsFile (items : List ItemForm) (tokens : List Token) : Type 0 where
  pub last : Token
  pub ends : terminal last ≡ End
  pub spelled : AreItems items tokens (last ∷ [])
  pub asserts : HasAssertion items
