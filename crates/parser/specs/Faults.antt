-- How a fault names a stop, and what a refusal says.
use Rattle.std.specs.Prelude.{◌≡◌, ℕ, List, Option, None}
use Rattle.std.specs.List.{Contains}
use Rattle.lexer.specs.declared.token.Token.{Token}
use Rattle.parser_grammar.specs.Trees.{ItemForm}
use Rattle.parser_grammar.specs.Files.{IsFile}
use Rattle.parser.specs.declared.fault.ParseFault.{ParseFault}
use Rattle.parser.specs.declared.fault.ParseFault.TheVariants as faults
use Rattle.parser.specs.Bytes.{IsByteIn}
use Rattle.parser.specs.declared.stop.Stop.{Stop}
use Rattle.parser.specs.declared.stop.Stop.TheVariants as stops

abbrev pub IsTooDeep : ParseFault → Type 0
IsTooDeep (faults.TooDeep at) = Unit {0}
IsTooDeep _ = ⊥

abbrev pub IsBadBound : ParseFault → Type 0
IsBadBound (faults.BadBound at) = Unit {0}
IsBadBound _ = ⊥

-- the fault of a stop: want of memory is that of memory, and no other
abbrev pub NamesStop : Stop → ParseFault → Type 0
NamesStop stops.Memory fault = fault ≡ faults.Memory
NamesStop (stops.Expected what at) fault = fault ≡ faults.Memory → ⊥
NamesStop (stops.TooDeep at) fault = IsTooDeep fault
NamesStop (stops.BadBound at) fault = IsBadBound fault

-- Nothing is read, unless memory ran out.
abbrev pub Refuses : {Y : Type 0} → ParseFault → Option Y → Type 0
Refuses fault read = (fault ≡ faults.Memory → ⊥) → read ≡ None

-- No file spells the tokens, unless memory ran out.
abbrev pub IsParseFault : List Token → ParseFault → Type 0
IsParseFault tokens fault =
    (fault ≡ faults.Memory → ⊥) → (xs : List ItemForm) → IsFile xs tokens → ⊥

-- One of the tokens stands at the byte, and this is its text.
pub record IsWordIn (tokens : List Token) (word : List ℕ) (at : ℕ) : Type 0 where
  pub token : Token
  pub among : Contains tokens token
  pub stands : token.at ≡ at
  pub text : token.text.now ≡ word

-- The fault stands at one of the tokens, and the word of P2 is that token's text.
abbrev pub IsPlaced : List Token → ParseFault → Type 0
IsPlaced tokens faults.Memory = Unit {0}
IsPlaced tokens (faults.Expected what at) = IsByteIn tokens at
IsPlaced tokens (faults.OutsideProfile word at) = IsWordIn tokens word.now at
IsPlaced tokens (faults.TooDeep at) = IsByteIn tokens at
IsPlaced tokens (faults.BadBound at) = IsByteIn tokens at
