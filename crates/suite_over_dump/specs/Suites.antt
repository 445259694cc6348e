-- The items of a text, and what their names mean over the variables of a dump.
use Rattle.std.specs.Prelude.{◌≡◌, ℕ, List, [], ◌∷◌, Ok, map}
use Rattle.lexer.specs.declared.token.Token.{Token}
use Rattle.lexer.specs.Cutting.{cut_of, tokens_of}
use Rattle.parser_grammar.specs.Trees.{AssertionForm, ItemForm}
use Rattle.parser_grammar.specs.Files.{IsFile}
use Rattle.types_names.specs.Scopes.{Scope, first_byte}
use Rattle.types_names.specs.Asked.{scope_for}
use Rattle.types.specs.Texts.{assertions_of}
use Rattle.vcd_reader.specs.Variables.{Declared}
use Rattle.suite_over_dump.specs.Dumps.{width_named}

-- The scope of a text over the variables of a dump: the text's own names, and the dump's paths.
abbrev pub scope_over : List Declared → List ItemForm → Scope
scope_over vs items = scope_for items (width_named vs)

-- The items that a text spells, by its tokens.
pub record Spells (text : List ℕ) (tokens : List Token) (items : List ItemForm) : Type 0 where
  pub cut : tokens_of text ≡ Ok (map cut_of tokens)
  pub spelled : IsFile items tokens

-- where the clock of the first assertion stands; at the front of the text where there is none
abbrev pub first_clock : List AssertionForm → ℕ
first_clock [] = 0
first_clock (a ∷ others) = first_byte a.clock

abbrev pub clock_byte : List ItemForm → ℕ
clock_byte items = first_clock (assertions_of items)
