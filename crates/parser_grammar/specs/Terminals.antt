-- What a token is to the grammar.
use Rattle.std.specs.Prelude.{ℕ, List, [], ◌∷◌, Bool, true, false, ◌&&◌, ◌==◌, codes}
use Rattle.std.specs.Prelude.{if◌then◌else◌}
use Rattle.std.specs.List.{list_any}
use Rattle.std.specs.Str.{bytes_eq}
use Rattle.lexer.specs.declared.token.Symbol.{Symbol}
use Rattle.lexer.specs.declared.token.Symbol.TheVariants as symbols
use Rattle.lexer.specs.declared.token.Kind.{Kind}
use Rattle.lexer.specs.declared.token.Kind.TheVariants as kinds
use Rattle.lexer.specs.declared.token.Token.{Token}
use Rattle.parser_grammar.specs.declared.terminal.Terminal.{Terminal}
use Rattle.parser_grammar.specs.declared.terminal.Terminal.TheVariants.{Counter, Clear, Load, Add}
use Rattle.parser_grammar.specs.declared.terminal.Terminal.TheVariants.{Sub}
use Rattle.parser_grammar.specs.declared.terminal.Terminal.TheVariants.{Sequence, EndSequence}
use Rattle.parser_grammar.specs.declared.terminal.Terminal.TheVariants.{Assert}
use Rattle.parser_grammar.specs.declared.terminal.Terminal.TheVariants.{Assume, Property, Posedge}
use Rattle.parser_grammar.specs.declared.terminal.Terminal.TheVariants.{Disable}
use Rattle.parser_grammar.specs.declared.terminal.Terminal.TheVariants.{Iff, Or, And, Throughout}
use Rattle.parser_grammar.specs.declared.terminal.Terminal.TheVariants.{Intersect}
use Rattle.parser_grammar.specs.declared.terminal.Terminal.TheVariants.{ForeignWord, Name, Past}
use Rattle.parser_grammar.specs.declared.terminal.Terminal.TheVariants.{Rose}
use Rattle.parser_grammar.specs.declared.terminal.Terminal.TheVariants.{Fell, Stable, Changed}
use Rattle.parser_grammar.specs.declared.terminal.Terminal.TheVariants.{OneHot}
use Rattle.parser_grammar.specs.declared.terminal.Terminal.TheVariants.{OneHot0, ForeignSystem}
use Rattle.parser_grammar.specs.declared.terminal.Terminal.TheVariants.{Number}
use Rattle.parser_grammar.specs.declared.terminal.Terminal.TheVariants.{OpenRound, CloseRound}
use Rattle.parser_grammar.specs.declared.terminal.Terminal.TheVariants.{OpenBrace}
use Rattle.parser_grammar.specs.declared.terminal.Terminal.TheVariants.{CloseBrace, OpenSquare}
use Rattle.parser_grammar.specs.declared.terminal.Terminal.TheVariants.{OpenRepeat}
use Rattle.parser_grammar.specs.declared.terminal.Terminal.TheVariants.{CloseSquare, Comma}
use Rattle.parser_grammar.specs.declared.terminal.Terminal.TheVariants.{Semicolon}
use Rattle.parser_grammar.specs.declared.terminal.Terminal.TheVariants.{Colon, AtSign, Dot, Delay}
use Rattle.parser_grammar.specs.declared.terminal.Terminal.TheVariants.{Overlapped, Following}
use Rattle.parser_grammar.specs.declared.terminal.Terminal.TheVariants.{ForeignSymbol, Operator}
use Rattle.parser_grammar.specs.declared.terminal.Terminal.TheVariants.{End}

-- Words of constructs that the profile leaves out. (`first_match` is left out but round an
-- antecedent; `property` where an item begins, and `iff` other than after `disable`, are left out
-- too.)
unfoldable pub foreign_words : List (List ℕ)
foreign_words =
    codes "within" ∷ codes "first_match" ∷ codes "strong" ∷ codes "weak"
    ∷ codes "not" ∷ codes "if" ∷ codes "else" ∷ codes "case" ∷ codes "always" ∷ codes "nexttime"
    ∷ codes "eventually" ∷ codes "until" ∷ codes "s_always" ∷ codes "s_nexttime"
    ∷ codes "s_eventually" ∷ codes "s_until" ∷ codes "s_until_with" ∷ codes "until_with"
    ∷ codes "implies" ∷ codes "accept_on" ∷ codes "reject_on" ∷ codes "cover" ∷ codes "restrict"
    ∷ codes "default" ∷ codes "clocking" ∷ codes "negedge" ∷ codes "edge" ∷ codes "local" ∷ []

abbrev pub is_foreign : List ℕ → Bool
is_foreign text = list_any (bytes_eq text) foreign_words

abbrev pub foreign_word : List ℕ → Terminal
foreign_word text = if is_foreign text then ForeignWord else Name

-- the words that the rules quote
unfoldable pub inner_word : List ℕ → Terminal
inner_word text =
    if bytes_eq text (codes "assume") then Assume
    else (if bytes_eq text (codes "property") then Property
    else (if bytes_eq text (codes "posedge") then Posedge
    else (if bytes_eq text (codes "disable") then Disable
    else (if bytes_eq text (codes "iff") then Iff
    else (if bytes_eq text (codes "or") then Or
    else (if bytes_eq text (codes "and") then And
    else (if bytes_eq text (codes "throughout") then Throughout
    else (if bytes_eq text (codes "intersect") then Intersect
    else foreign_word text))))))))

unfoldable pub word_terminal : List ℕ → Terminal
word_terminal text =
    if bytes_eq text (codes "counter") then Counter
    else (if bytes_eq text (codes "clear") then Clear
    else (if bytes_eq text (codes "load") then Load
    else (if bytes_eq text (codes "add") then Add
    else (if bytes_eq text (codes "sub") then Sub
    else (if bytes_eq text (codes "sequence") then Sequence
    else (if bytes_eq text (codes "endsequence") then EndSequence
    else (if bytes_eq text (codes "assert") then Assert
    else inner_word text)))))))

unfoldable pub system_terminal : List ℕ → Terminal
system_terminal text =
    if bytes_eq text (codes "$past") then Past
    else (if bytes_eq text (codes "$rose") then Rose
    else (if bytes_eq text (codes "$fell") then Fell
    else (if bytes_eq text (codes "$stable") then Stable
    else (if bytes_eq text (codes "$changed") then Changed
    else (if bytes_eq text (codes "$onehot") then OneHot
    else (if bytes_eq text (codes "$onehot0") then OneHot0
    else ForeignSystem))))))

abbrev pub symbol_terminal : Symbol → Terminal
symbol_terminal symbols.OpenRound = OpenRound
symbol_terminal symbols.CloseRound = CloseRound
symbol_terminal symbols.OpenBrace = OpenBrace
symbol_terminal symbols.CloseBrace = CloseBrace
symbol_terminal symbols.OpenSquare = OpenSquare
symbol_terminal symbols.OpenRepeat = OpenRepeat
symbol_terminal symbols.CloseSquare = CloseSquare
symbol_terminal symbols.Comma = Comma
symbol_terminal symbols.Semicolon = Semicolon
symbol_terminal symbols.Colon = Colon
symbol_terminal symbols.AtSign = AtSign
symbol_terminal symbols.Dot = Dot
symbol_terminal symbols.Delay = Delay
symbol_terminal symbols.Overlapped = Overlapped
symbol_terminal symbols.Following = Following
symbol_terminal symbols.Star = ForeignSymbol
symbol_terminal symbols.Slash = ForeignSymbol
symbol_terminal symbols.Percent = ForeignSymbol
symbol_terminal _ = Operator

abbrev pub kind_terminal : Kind → List ℕ → Terminal
kind_terminal kinds.Word text = word_terminal text
kind_terminal kinds.System text = system_terminal text
kind_terminal (kinds.Number n) text = Number
kind_terminal (kinds.Symbol s) text = symbol_terminal s
kind_terminal kinds.End text = End

abbrev pub terminal : Token → Terminal
terminal t = kind_terminal t.kind t.text.now

-- NAME: any word but those that the rules quote and those of constructs that the profile leaves
-- out. The words of a counter are names too.
abbrev pub names : Terminal → Bool
names Counter = true
names Clear = true
names Load = true
names Add = true
names Sub = true
names Name = true
names _ = false

unfoldable pub is_name : Token → Bool
is_name t = names (terminal t)

abbrev pub is_word_kind : Kind → Bool
is_word_kind kinds.Word = true
is_word_kind _ = false

-- any word: what may stand after a dot
unfoldable pub is_word : Token → Bool
is_word t = is_word_kind t.kind

-- numbers for the terminals, so that two can be compared
abbrev pub terminal_number : Terminal → ℕ
terminal_number Counter = 0
terminal_number Clear = 1
terminal_number Load = 2
terminal_number Add = 3
terminal_number Sub = 4
terminal_number Sequence = 5
terminal_number EndSequence = 6
terminal_number Assert = 7
terminal_number Assume = 8
terminal_number Property = 9
terminal_number Posedge = 10
terminal_number Disable = 11
terminal_number Iff = 12
terminal_number Or = 13
terminal_number And = 14
terminal_number Throughout = 15
terminal_number ForeignWord = 16
terminal_number Name = 17
terminal_number Past = 18
terminal_number Rose = 19
terminal_number Fell = 20
terminal_number Stable = 21
terminal_number Changed = 22
terminal_number OneHot = 23
terminal_number OneHot0 = 24
terminal_number ForeignSystem = 25
terminal_number Number = 26
terminal_number OpenRound = 27
terminal_number CloseRound = 28
terminal_number OpenBrace = 29
terminal_number CloseBrace = 30
terminal_number OpenSquare = 31
terminal_number OpenRepeat = 32
terminal_number CloseSquare = 33
terminal_number Comma = 34
terminal_number Semicolon = 35
terminal_number Colon = 36
terminal_number AtSign = 37
terminal_number Dot = 38
terminal_number Delay = 39
terminal_number Overlapped = 40
terminal_number Following = 41
terminal_number ForeignSymbol = 42
terminal_number Operator = 43
terminal_number End = 44
terminal_number Intersect = 45

-- whether the token is the terminal
unfoldable pub is : Terminal → Token → Bool
is wanted t = terminal_number wanted == terminal_number (terminal t)

-- the word round an antecedent, of which only the first match counts
unfoldable pub is_first_match_word : Token → Bool
is_first_match_word t = is ForeignWord t && bytes_eq t.text.now (codes "first_match")
