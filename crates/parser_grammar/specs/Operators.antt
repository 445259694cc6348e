-- Left operators, and how loosely they join; implications.
use Rattle.std.specs.Prelude.{ℕ, Bool, false, ◌==◌, Option, Some, None}
use Rattle.lexer.specs.declared.token.Symbol.{Symbol}
use Rattle.lexer.specs.declared.token.Symbol.TheVariants as symbols
use Rattle.lexer.specs.declared.token.Kind.{Kind}
use Rattle.lexer.specs.declared.token.Kind.TheVariants as kinds
use Rattle.lexer.specs.declared.token.Token.{Token}
use Rattle.parser_grammar.specs.declared.terminal.Terminal.{Terminal}
use Rattle.parser_grammar.specs.declared.terminal.Terminal.TheVariants as terminals
use Rattle.parser_grammar.specs.declared.operator.Infix.{Infix}
use Rattle.parser_grammar.specs.declared.operator.Infix.TheVariants.{Add, Sub, ShiftLeft}
use Rattle.parser_grammar.specs.declared.operator.Infix.TheVariants.{ShiftRight}
use Rattle.parser_grammar.specs.declared.operator.Infix.TheVariants.{Less, LessEqual, Greater}
use Rattle.parser_grammar.specs.declared.operator.Infix.TheVariants.{GreaterEqual, Equal, NotEqual}
use Rattle.parser_grammar.specs.declared.operator.Infix.TheVariants.{And}
use Rattle.parser_grammar.specs.declared.operator.Infix.TheVariants.{Xor, Xnor, Or, LogicalAnd}
use Rattle.parser_grammar.specs.declared.operator.Infix.TheVariants.{LogicalOr}
use Rattle.parser_grammar.specs.declared.operator.Implication.{Implication}
use Rattle.parser_grammar.specs.declared.operator.Implication.TheVariants as implications
use Rattle.parser_grammar.specs.Terminals.{terminal}

abbrev pub infix_of_symbol : Symbol → Option Infix
infix_of_symbol symbols.Plus = Some Add
infix_of_symbol symbols.Minus = Some Sub
infix_of_symbol symbols.ShiftLeft = Some ShiftLeft
infix_of_symbol symbols.ShiftRight = Some ShiftRight
infix_of_symbol symbols.Less = Some Less
infix_of_symbol symbols.LessEqual = Some LessEqual
infix_of_symbol symbols.Greater = Some Greater
infix_of_symbol symbols.GreaterEqual = Some GreaterEqual
infix_of_symbol symbols.Equal = Some Equal
infix_of_symbol symbols.NotEqual = Some NotEqual
infix_of_symbol symbols.And = Some And
infix_of_symbol symbols.Xor = Some Xor
infix_of_symbol symbols.Xnor = Some Xnor
infix_of_symbol symbols.XnorCaret = Some Xnor
infix_of_symbol symbols.Or = Some Or
infix_of_symbol symbols.AndAnd = Some LogicalAnd
infix_of_symbol symbols.OrOr = Some LogicalOr
infix_of_symbol _ = None

abbrev pub infix_of_kind : Kind → Option Infix
infix_of_kind (kinds.Symbol s) = infix_of_symbol s
infix_of_kind _ = None

abbrev pub infix_of_terminal : Terminal → Kind → Option Infix
infix_of_terminal terminals.Operator k = infix_of_kind k
infix_of_terminal _ k = None

-- the left operator that a token is
unfoldable pub infix_of : Token → Option Infix
infix_of t = infix_of_terminal (terminal t) t.kind

-- the levels of the left operators, from the tightest
abbrev pub infix_level : Infix → ℕ
infix_level Add = 1
infix_level Sub = 1
infix_level ShiftLeft = 2
infix_level ShiftRight = 2
infix_level Less = 3
infix_level LessEqual = 3
infix_level Greater = 3
infix_level GreaterEqual = 3
infix_level Equal = 4
infix_level NotEqual = 4
infix_level And = 5
infix_level Xor = 6
infix_level Xnor = 6
infix_level Or = 7
infix_level LogicalAnd = 8
infix_level LogicalOr = 9

abbrev pub is_of_level : ℕ → Option Infix → Bool
is_of_level l None = false
is_of_level l (Some op) = infix_level op == l

-- whether a token is a left operator of the level
unfoldable pub is_infix : ℕ → Token → Bool
is_infix l t = is_of_level l (infix_of t)

abbrev pub implication_of_terminal : Terminal → Option Implication
implication_of_terminal terminals.Overlapped = Some implications.Overlapped
implication_of_terminal terminals.Following = Some implications.NonOverlapped
implication_of_terminal _ = None

-- the implication that a token is: |-> or |=> (IEEE 1800-2017, 16.12.7)
unfoldable pub implication_of : Token → Option Implication
implication_of t = implication_of_terminal (terminal t)
