-- What it means that tokens are those of a text (IEEE 1800-2017, clauses 5 and 22).
use Rattle.std.specs.Prelude.{◌≡◌, ℕ, ◌<◌, ◌≤◌, List, [], ◌∷◌, ◌++◌, length, slice_index}
use Rattle.std.specs.Prelude.{slice_range, false}
use Rattle.std.specs.List.{AllByRecursion}
use Rattle.import_tokens.specs.declared.token.Kind.TheVariants as kinds
use Rattle.import_tokens.specs.declared.token.Token.{Token}
use Rattle.import_tokens.specs.Gaps.{IsGap}
use Rattle.import_tokens.specs.Cuts.{IsToken}

-- A token is the bytes of the text from its place up to another.
pub record IsWritten (text : List ℕ) (from to : ℕ) (token : Token) : Type 0 where
  pub at : token.at ≡ from
  pub some : from < to
  pub inside : to ≤ length text
  pub bytes : token.text.now ≡ slice_range text from to
  pub kind : IsToken token.kind text from to
  pub made : token.made ≡ false

-- the last token
pub record IsEnd (text : List ℕ) (token : Token) : Type 0 where
  pub at : token.at ≡ length text
  pub kind : token.kind ≡ kinds.End
  pub bytes : token.text.now ≡ []

-- The tokens are those of the text from a place on. Each that no macro made is the bytes at its
-- place, and they stand in the text's order. Between them is white space, comments and attributes,
-- and directives, each with what it takes with it: its line, its arguments, or text that it leaves
-- out. What a directive makes has its place.
pub data Reads : List ℕ → ℕ → List Token → Type 0 where
  at_end : {text : List ℕ} {token : Token} → IsEnd text token
      → Reads text (length text) (token ∷ [])
  over_gap : {text : List ℕ} {from to : ℕ} {tokens : List Token} → from < to → to ≤ length text
      → IsGap text from to → Reads text to tokens → Reads text from tokens
  over_token : {text : List ℕ} {from to : ℕ} {token : Token} {tokens : List Token}
      → IsWritten text from to token → Reads text to tokens → Reads text from (token ∷ tokens)
  over_directive : {text : List ℕ} {from to : ℕ} (made : List Token) {tokens : List Token}
      → slice_index text from ≡ 96 → from < to → to ≤ length text
      → AllByRecursion (λ (token : Token). token.at ≡ from) made → Reads text to tokens
      → Reads text from (made ++ tokens)

-- The tokens after others have these, which a directive at a place made, as well.
pub record Adds (at : ℕ) (before after : List Token) : Type 0 where
  pub made : List Token
  pub joined : after ≡ before ++ made
  pub placed : AllByRecursion (λ (token : Token). token.at ≡ at) made
