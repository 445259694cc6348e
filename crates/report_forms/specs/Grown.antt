-- Lists that grow.
use Rattle.std.specs.Prelude.{◌≡◌, List, ◌++◌}
use Rattle.json.specs.Token.{Token}
use Rattle.json.specs.Written.{Written}

-- a list that grew by a piece
pub record Grows {X : Type 0} (old new piece : List X) : Type 0 where
  pub is : new ≡ old ++ piece

-- a writer of JSON that took some tokens in
pub record Adds (old new : Written) (piece : List Token) : Type 0 where
  pub tokens : Grows old.tokens new.tokens piece
  pub before : new.before ≡ old.before
