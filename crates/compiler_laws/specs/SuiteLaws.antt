-- What each assertion of a suite of a text keeps to.
use Rattle.std.specs.Prelude.{◌≡◌, ℕ, List, map, Option, Ok}
use Rattle.std.specs.List.{AllByRecursion}
use Rattle.lexer.specs.declared.token.Token.{Token}
use Rattle.lexer.specs.Cutting.{cut_of, tokens_of}
use Rattle.parser_grammar.specs.Trees.{ItemForm}
use Rattle.parser_grammar.specs.Files.{IsFile}
use Rattle.assertions.specs.declared.suite.Suite.{Suite}
use Rattle.types_names.specs.Asked.{scope_for}
use Rattle.types.specs.Suites.{IsSuite}
use Rattle.types.specs.Faults.{IsFaultless}
use Rattle.compiler.specs.Conditions.{FitsSuite}

-- The text's bytes are cut into tokens, these spell items in which no fault of types stands over
-- the dump's paths, which have these widths, and the suite says what the items say.
pub record SaysOver (widths : List ℕ → Option ℕ) (text : List ℕ) (suite : Suite) : Type 0 where
  pub tokens : List Token
  pub items : List ItemForm
  pub cut : tokens_of text ≡ Ok (map cut_of tokens)
  pub spelled : IsFile items tokens
  pub faultless : IsFaultless (scope_for items widths) items
  pub says : IsSuite (scope_for items widths) items suite

-- Each assertion of the suite of a text is fit to be compiled.
abbrev pub SuitesFit : Type 0
SuitesFit =
    (widths : List ℕ → Option ℕ) (text : List ℕ) (suite : Suite) → SaysOver widths text suite →
    AllByRecursion (FitsSuite suite) suite.assertions.items
