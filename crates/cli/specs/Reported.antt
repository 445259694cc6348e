-- The report on a dump and a text, by the definitions alone.
use Rattle.std.specs.Prelude.{◌≡◌, ℕ, ◌≤◌, List, length, map, Ok}
use Rattle.lexer.specs.declared.token.Token.{Token}
use Rattle.lexer.specs.Cutting.{cut_of, tokens_of}
use Rattle.parser_grammar.specs.Trees.{ItemForm}
use Rattle.parser_grammar.specs.Files.{IsFile}
use Rattle.assertions.specs.declared.suite.Suite.{Suite}
use Rattle.types.specs.Faults.{IsFaultless}
use Rattle.types.specs.Suites.{IsSuite}
use Rattle.vcd_reader.specs.Dump.{Contents, dump_of, most_bytes}
use Rattle.report_lines.specs.Lines.{ReportData}
use Rattle.report_suites.specs.Reported.{Reports}
use Rattle.suite_over_dump.specs.Suites.{scope_over}

-- the text's tokens
abbrev pub AreTokens : List ℕ → List Token → Type 0
AreTokens text tokens = tokens_of text ≡ Ok (map cut_of tokens)

-- The items that a text spells.
pub record HasItems (text : List ℕ) (items : List ItemForm) : Type 0 where
  pub tokens : List Token
  pub cut : AreTokens text tokens
  pub spelled : IsFile items tokens

-- The suite that items say over the contents of a dump. No fault of types stands.
pub record IsTyped (c : Contents) (items : List ItemForm) (suite : Suite) : Type 0 where
  pub faultless : IsFaultless (scope_over c.variables items) items
  pub says : IsSuite (scope_over c.variables items) items suite

-- The suite that a text says over the contents of a dump.
pub record SaysSuite (c : Contents) (text : List ℕ) (suite : Suite) : Type 0 where
  pub items : List ItemForm
  pub spelled : HasItems text items
  pub typed : IsTyped c items suite

-- The report on a text over the contents of a dump: that on a suite that the text says.
pub record HasReport (c : Contents) (text : List ℕ) (report : ReportData) : Type 0 where
  pub suite : Suite
  pub says : SaysSuite c text suite
  pub reports : Reports c suite report

-- The report on the bytes of a dump and the bytes of a text.
pub record IsReport (bytes text : List ℕ) (report : ReportData) : Type 0 where
  pub few : length bytes ≤ most_bytes
  pub contents : Contents
  pub dump : dump_of bytes ≡ Ok contents
  pub has : HasReport contents text report
