-- What is left of a text over the variables of a dump.
use Rattle.std.specs.Prelude.{◌≡◌, ◌≢◌, ◌⊎◌, ℕ, List, Option, Ok, length, map, IsOk, IfSome}
use Rattle.std.specs.Prelude.{false, String, string_bytes}
use Rattle.std.specs.List.{list_any}
use Rattle.std.specs.declared.alloc.Global.{Global}
use Rattle.lexer.specs.declared.token.Token.{Token}
use Rattle.lexer.specs.Cutting.{cut_of, tokens_of}
use Rattle.diagnostics.specs.Items.{AreItemEnds}
use Rattle.diagnostics.specs.Linted.{refusing, IsTold}
use Rattle.vcd_reader.specs.Variables.{Declared}
use Rattle.lint_refusals.specs.Refused.{IsAccepted, IsRefused}
use Rattle.lint_refusals.specs.Alone.{IsRefusedAlone}
use Rattle.lint_refusals.specs.Beside.{HasFaultAt}
use Rattle.lint_refusals.specs.Verbs.{is_verb}

-- A text that is not the whole one, and has no assertion.
pub record IsBare (whole text : List ℕ) : Type 0 where
  pub other : text ≢ whole
  pub tokens : List Token
  pub cut : tokens_of text ≡ Ok (map cut_of tokens)
  pub none : list_any is_verb tokens ≡ false

-- what is left of a text is accepted, or no assertion is left
abbrev pub IsLeft : List Declared → List ℕ → String Global → Type 0
IsLeft vs text rest = IsAccepted vs (string_bytes rest) ⊎ IsBare text (string_bytes rest)

-- The text is refused at these bytes, each time without the items that were refused before, or in
-- an item by itself, and this is left.
abbrev pub AreTold : List Declared → List ℕ → List ℕ → List ℕ → Option (String Global) → Type 0
AreTold vs ends text places rest =
    IsTold (refusing (IsRefused vs) (HasFaultAt vs) (IsRefusedAlone vs text)) ends text places rest

-- So many refusals are told of the text, and this is left.
pub record IsRest (vs : List Declared) (text : List ℕ) (refused : ℕ)
    (rest : Option (String Global)) : Type 0 where
  pub ends : List ℕ
  pub items : IsOk (tokens_of text) → AreItemEnds text ends
  pub places : List ℕ
  pub told : AreTold vs ends text places rest
  pub many : length places ≡ refused
  pub left : IfSome rest (IsLeft vs text)
