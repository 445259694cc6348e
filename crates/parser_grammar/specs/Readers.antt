-- Reading from the left: a part of the tokens, and those after it, or nothing.
use Rattle.std.specs.Prelude.{ℕ, zero, suc, List, [], ◌∷◌, Bool, length, Option, Some, None}
use Rattle.std.specs.Prelude.{option_and_then, option_map, if◌then◌else◌}
use Rattle.lexer.specs.declared.token.Token.{Token}
use Rattle.parser_grammar.specs.declared.terminal.Terminal.{Terminal}
use Rattle.parser_grammar.specs.Terminals.{is}

infixl 10 ◌>>=◌
abbrev pub ◌>>=◌ : {A B : Type 0} → Option A → (A → Option B) → Option B
o >>= f = option_and_then f o

-- a part, and the tokens after it
abbrev pub Reader : Type 0 → Type 0
Reader A = List Token → Option (A × List Token)

abbrev pub refuse : {A : Type 0} → Reader A
refuse ts = None

-- the first token, if it passes the test
unfoldable pub lead : (Token → Bool) → Reader Token
lead test [] = None
lead test (t ∷ ts) = if test t then Some (t, ts) else None

-- the first token, if it is the terminal
unfoldable pub expect : Terminal → Reader Token
expect wanted ts = lead (is wanted) ts

-- what the first token is, if it is something
unfoldable pub pick : {A : Type 0} → (Token → Option A) → Reader A
pick f [] = None
pick f (t ∷ ts) = option_map (λ a. (a, ts)) (f t)

-- a part that stands after a terminal, if that is there
abbrev pub optional_by : {A : Type 0} → Reader A → Option (Token × List Token) → List Token
    → Option (Option A × List Token)
optional_by r None ts = Some (None, ts)
optional_by r (Some p) ts = r p.1 >>= λ q. Some (Some q.0, q.1)

unfoldable pub optional : {A : Type 0} → Terminal → Reader A → Reader (Option A)
optional wanted r ts = optional_by r (expect wanted ts) ts

-- Parts as long as a token that passes the test stands before each. The number bounds the turns;
-- the count of the tokens is enough.
abbrev pub many_by : {A : Type 0} → (Token → Reader A) → Reader (List A)
    → Option (Token × List Token) → List Token → Option (List A × List Token)
many_by r go None ts = Some ([], ts)
many_by r go (Some p) ts = r p.0 p.1 >>= λ q. go q.1 >>= λ s. Some (q.0 ∷ s.0, s.1)

unfoldable pub many : {A : Type 0} → (Token → Bool) → (Token → Reader A) → ℕ → Reader (List A)
many test r zero ts = Some ([], ts)
many test r (suc n) ts = many_by r (many test r n) (lead test ts) ts

-- the same, with turns for all tokens
unfoldable pub each : {A : Type 0} → (Token → Bool) → (Token → Reader A) → Reader (List A)
each test r ts = many test r (length ts) ts
