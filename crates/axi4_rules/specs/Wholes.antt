-- Texts of whole lines.
use Rattle.std.specs.Prelude.{◌≡◌, ℕ, List, ◌++◌, string_bytes}
use Rattle.std.specs.Prelude.{String}
use Rattle.std.specs.Global.{Global}
use Rattle.axi4_rules.specs.Texts.{tokens}
use Rattle.axi4_rules.specs.Rules.{tokens_of}

-- what stands after the text adds its own tokens
abbrev pub IsWhole : List ℕ → Type 0
IsWhole text = (more : List ℕ) → tokens (text ++ more) ≡ tokens text ++ tokens more

-- tokens, and then those of lines
pub record Adds (old new : List (List ℕ)) (ls : List (List ℕ)) : Type 0 where
  pub is : new ≡ old ++ tokens_of ls

-- the tokens of a text are those of the lines
abbrev pub HasTokens : String Global → List (List ℕ) → Type 0
HasTokens text ls = tokens (string_bytes text) ≡ tokens_of ls
