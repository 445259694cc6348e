-- How a token may begin a primary, and how loosely it joins.
use Rattle.std.specs.Prelude.{ℕ, List, [], ◌∷◌, Bool, ◌==◌, Option, Some, None}
use Rattle.lexer.specs.declared.token.Symbol.TheVariants as symbol
use Rattle.lexer.specs.declared.token.Kind.{Kind}
use Rattle.lexer.specs.declared.token.Kind.TheVariants as kind
use Rattle.lexer.specs.declared.token.Token.{Token}
use Rattle.parser_grammar.specs.declared.terminal.Terminal.{Terminal}
use Rattle.parser_grammar.specs.declared.terminal.Terminal.TheVariants as terminals
use Rattle.parser_grammar.specs.declared.mark.Function.TheVariants as function
use Rattle.parser_grammar.specs.declared.operator.Prefix.TheVariants as prefix
use Rattle.parser_grammar.specs.declared.operator.Infix.{Infix}
use Rattle.parser_grammar.specs.declared.mark.Mark.{Mark}
use Rattle.parser_grammar.specs.declared.mark.Mark.TheVariants.{Number, Name, Prefix, Opening}
use Rattle.parser_grammar.specs.declared.mark.Mark.TheVariants.{Brace, Past}
use Rattle.parser_grammar.specs.declared.mark.Mark.TheVariants.{Call, Other}
use Rattle.parser_grammar.specs.Terminals.{terminal}
use Rattle.parser_grammar.specs.Operators.{infix_of_kind, infix_level}

-- the unary operators ! ~ & ~& | ~| ^ ~^ ^~
abbrev pub mark_of_operator : Kind → Mark
mark_of_operator (kind.Symbol symbol.Bang) = Prefix prefix.Not
mark_of_operator (kind.Symbol symbol.Tilde) = Prefix prefix.Complement
mark_of_operator (kind.Symbol symbol.And) = Prefix prefix.And
mark_of_operator (kind.Symbol symbol.Nand) = Prefix prefix.Nand
mark_of_operator (kind.Symbol symbol.Or) = Prefix prefix.Or
mark_of_operator (kind.Symbol symbol.Nor) = Prefix prefix.Nor
mark_of_operator (kind.Symbol symbol.Xor) = Prefix prefix.Xor
mark_of_operator (kind.Symbol symbol.Xnor) = Prefix prefix.Xnor
mark_of_operator (kind.Symbol symbol.XnorCaret) = Prefix prefix.Xnor
mark_of_operator _ = Other

abbrev pub mark_of_number : Kind → Mark
mark_of_number (kind.Number n) = Number n
mark_of_number _ = Other

-- NUM, NAME, "(", "{", "$past", the functions of one operand, and the unary operators
abbrev pub mark_of_terminal : Terminal → Kind → Mark
mark_of_terminal terminals.Number k = mark_of_number k
mark_of_terminal terminals.Counter k = Name
mark_of_terminal terminals.Clear k = Name
mark_of_terminal terminals.Load k = Name
mark_of_terminal terminals.Add k = Name
mark_of_terminal terminals.Sub k = Name
mark_of_terminal terminals.Name k = Name
mark_of_terminal terminals.OpenRound k = Opening
mark_of_terminal terminals.OpenBrace k = Brace
mark_of_terminal terminals.Past k = Past
mark_of_terminal terminals.Rose k = Call function.Rose
mark_of_terminal terminals.Fell k = Call function.Fell
mark_of_terminal terminals.Stable k = Call function.Stable
mark_of_terminal terminals.Changed k = Call function.Changed
mark_of_terminal terminals.OneHot k = Call function.OneHot
mark_of_terminal terminals.OneHot0 k = Call function.OneHot0
mark_of_terminal terminals.Operator k = mark_of_operator k
mark_of_terminal _ k = Other

unfoldable pub mark : Token → Mark
mark t = mark_of_terminal (terminal t) t.kind

-- How loosely a token joins what stands before it to what follows, from the tightest. After what
-- goes on with a path come the levels of the left operators, which are 1 to 9.
abbrev pub path_level : ℕ
path_level = 0

-- ?
abbrev pub choice_level : ℕ
choice_level = 10

abbrev pub throughout_level : ℕ
throughout_level = 11

-- [*
abbrev pub repeat_level : ℕ
repeat_level = 12

-- ##
abbrev pub delay_level : ℕ
delay_level = 13

abbrev pub intersect_level : ℕ
intersect_level = 14

abbrev pub and_level : ℕ
and_level = 15

abbrev pub or_level : ℕ
or_level = 16

-- |-> and |=>
abbrev pub implication_level : ℕ
implication_level = 17

-- it joins nothing
abbrev pub no_level : ℕ
no_level = 100

abbrev pub precedence_of_other : Kind → ℕ
precedence_of_other (kind.Symbol symbol.Question) = choice_level
precedence_of_other _ = no_level

abbrev pub precedence_by : Option Infix → Kind → ℕ
precedence_by None k = precedence_of_other k
precedence_by (Some op) k = infix_level op

abbrev pub precedence_of_operator : Kind → ℕ
precedence_of_operator k = precedence_by (infix_of_kind k) k

abbrev pub precedence_of_terminal : Terminal → Kind → ℕ
precedence_of_terminal terminals.Dot k = path_level
precedence_of_terminal terminals.OpenSquare k = path_level
precedence_of_terminal terminals.Operator k = precedence_of_operator k
precedence_of_terminal terminals.Throughout k = throughout_level
precedence_of_terminal terminals.OpenRepeat k = repeat_level
precedence_of_terminal terminals.Delay k = delay_level
precedence_of_terminal terminals.Intersect k = intersect_level
precedence_of_terminal terminals.And k = and_level
precedence_of_terminal terminals.Or k = or_level
precedence_of_terminal terminals.Overlapped k = implication_level
precedence_of_terminal terminals.Following k = implication_level
precedence_of_terminal _ k = no_level

unfoldable pub precedence : Token → ℕ
precedence t = precedence_of_terminal (terminal t) t.kind

-- whether a token is an operator so loose
unfoldable pub has_precedence : ℕ → Token → Bool
has_precedence k t = precedence t == k

-- that of the first token
abbrev pub next_precedence : List Token → ℕ
next_precedence [] = no_level
next_precedence (t ∷ ts) = precedence t
