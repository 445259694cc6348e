-- Faults that stand in the items of a text, be they the first or not.
use Rattle.std.specs.Prelude.{◌≡◌, ◌<◌, ℕ, List, [], ◌∷◌, Option, Some, true}
use Rattle.std.specs.List.{Contains}
use Rattle.std.specs.Str.{bytes_eq}
use Rattle.lexer.specs.declared.token.Token.{Token}
use Rattle.parser_grammar.specs.Trees.{ItemForm, counter, declaration, assertion}
use Rattle.types_names.specs.declared.own.Sought.{Sought}
use Rattle.types_names.specs.Scopes.{Scope}
use Rattle.types_names.specs.Faults.{file_faults, least}

-- the name that is written in an item: an assertion may have none
abbrev pub written_name : ItemForm → Option Token
written_name (counter c) = Some c.name
written_name (declaration d) = Some d.name
written_name (assertion a) = a.label

-- The name is written in one of the items.
pub record IsWritten (items : List ItemForm) (name : Token) : Type 0 where
  pub item : ItemForm
  pub one : Contains items item
  pub has : written_name item ≡ Some name

-- A fault of types stands at a byte of the items: the first of its kind (Y1, Y3, Y4) in one of
-- them, or a name that was written before (Y2).
pub data StandsIn (s : Scope) (items : List ItemForm) (at : ℕ) : Type 0 where
  faulty : (k : Sought) (item : ItemForm) → Contains items item
      → least (file_faults s k (item ∷ [])) ≡ Some at → StandsIn s items at
  repeated : (first second : Token) → IsWritten items first → IsWritten items second
      → bytes_eq first.text.now second.text.now ≡ true → first.at < second.at
      → at ≡ second.at → StandsIn s items at
