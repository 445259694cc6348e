-- Faults that stand in a text over the variables of a dump, be they the first or not.
use Rattle.std.specs.Prelude.{ℕ, List}
use Rattle.lexer.specs.declared.token.Token.{Token}
use Rattle.parser_grammar.specs.Trees.{ItemForm}
use Rattle.vcd_reader.specs.Variables.{Declared}
use Rattle.suite_over_dump.specs.Standing.{StandsIn}
use Rattle.suite_over_dump.specs.Suites.{Spells, scope_over}

-- The text spells items, in which a fault of types stands at a byte.
pub record HasFaultAt (vs : List Declared) (text : List ℕ) (at : ℕ) : Type 0 where
  pub tokens : List Token
  pub items : List ItemForm
  pub spells : Spells text tokens items
  pub stands : StandsIn (scope_over vs items) items at
