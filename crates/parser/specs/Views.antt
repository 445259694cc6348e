-- What it is that a reader of the code gives what a function reads.
use Rattle.std.specs.Prelude.{◌≡◌, ℕ, List, Option, Some, None, Result, Ok, Err}
use Rattle.lexer.specs.declared.token.Token.{Token}
use Rattle.parser_grammar.specs.declared.operator.Infix.{Infix}
use Rattle.parser_grammar.specs.Operators.{infix_of, is_infix}
use Rattle.parser_grammar.specs.Readers.{Reader, lead}
use Rattle.parser.specs.declared.stop.Stop.{Stop}
use Rattle.parser.specs.declared.stop.Stop.TheVariants as stops

-- What a function returned, seen by view, is what reading gives, unless memory ran out.
abbrev pub Fails : {Y : Type 0} → Stop → Option Y → Type 0
Fails stops.Memory read = Unit {0}
Fails (stops.Expected what at) read = read ≡ None
Fails (stops.TooDeep at) read = read ≡ None
Fails (stops.BadBound at) read = read ≡ None

abbrev pub Gives : {X Y : Type 0} → (X → Y) → Result X Stop → Option Y → Type 0
Gives view (Ok x) read = read ≡ Some (view x)
Gives view (Err e) read = Fails e read

-- A left operator of the level leads the tokens, with the rest after it.
pub record IsLed (level : ℕ) (tokens : List Token) (op : Infix) (rest : List Token) : Type 0 where
  pub token : Token
  pub led : lead (is_infix level) tokens ≡ Some (token, rest)
  pub operator : infix_of token ≡ Some op

-- what was read, with the tokens after it
abbrev pub read_as : {A : Type 0} → A → Reader A
read_as a ts = Some (a, ts)
