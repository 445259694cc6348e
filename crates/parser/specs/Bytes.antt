-- Where readers stop.
use Rattle.std.specs.Prelude.{◌≡◌, ℕ, List}
use Rattle.std.specs.List.{Contains}
use Rattle.lexer.specs.declared.token.Token.{Token}

-- One of the tokens stands at the byte.
pub record IsByteIn (tokens : List Token) (at : ℕ) : Type 0 where
  pub token : Token
  pub among : Contains tokens token
  pub stands : token.at ≡ at
