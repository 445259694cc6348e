-- What explanations take from the items of a text.
use Rattle.std.specs.Prelude.{◌≡◌, ℕ, List, [], ◌∷◌, Option, Some, None, map}
use Rattle.lexer.specs.declared.token.Token.{Token}
use Rattle.parser_grammar.specs.Trees.{ItemForm, counter, declaration, assertion}
use Rattle.cli.specs.declared.heads.Heads.{Heads}

-- what the counters are called, in their order
abbrev pub counter_names : List ItemForm → List (List ℕ)
counter_names [] = []
counter_names (counter c ∷ items) = c.name.text.now ∷ counter_names items
counter_names (declaration d ∷ items) = counter_names items
counter_names (assertion a ∷ items) = counter_names items

-- the byte at which an assertion begins: that of its label, or of its verb
abbrev pub head_of : Option Token → Token → ℕ
head_of None verb = verb.at
head_of (Some label) verb = label.at

-- where the assertions begin, in their order
abbrev pub assertion_places : List ItemForm → List ℕ
assertion_places [] = []
assertion_places (counter c ∷ items) = assertion_places items
assertion_places (declaration d ∷ items) = assertion_places items
assertion_places (assertion a ∷ items) = head_of a.label a.verb ∷ assertion_places items

-- in memory
pub record AreHeads (items : List ItemForm) (h : Heads) : Type 0 where
  pub places : h.places.items ≡ assertion_places items
  pub counters : map (λ t. t.now) h.counters.items ≡ counter_names items
