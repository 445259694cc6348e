-- Terminals as numbers.
use Rattle.std.proofs.Common.{◌≡◌, ℕ, eqb, true, false, cond, refl, sym, ap, ◌∙◌}
use Rattle.std.proofs.lemmas.Bool.{eqb-true, eqb-false, eq-eqb, ne_eqb}
use Rattle.lexer.specs.declared.token.Token.{Token}
use Rattle.parser_grammar.specs.declared.terminal.Terminal.{Terminal}
use Rattle.parser_grammar.specs.declared.terminal.Terminal.TheVariants.{Counter, Clear, Load, Add, Sub, Sequence}
use Rattle.parser_grammar.specs.declared.terminal.Terminal.TheVariants.{EndSequence}
use Rattle.parser_grammar.specs.declared.terminal.Terminal.TheVariants.{Assert, Assume, Property, Posedge, Disable, Iff}
use Rattle.parser_grammar.specs.declared.terminal.Terminal.TheVariants.{Or}
use Rattle.parser_grammar.specs.declared.terminal.Terminal.TheVariants.{And, Throughout, Intersect, ForeignWord, Name}
use Rattle.parser_grammar.specs.declared.terminal.Terminal.TheVariants.{Past}
use Rattle.parser_grammar.specs.declared.terminal.Terminal.TheVariants.{Rose, Fell}
use Rattle.parser_grammar.specs.declared.terminal.Terminal.TheVariants.{Stable, Changed, OneHot, OneHot0, ForeignSystem}
use Rattle.parser_grammar.specs.declared.terminal.Terminal.TheVariants.{Number, OpenRound, CloseRound, OpenBrace}
use Rattle.parser_grammar.specs.declared.terminal.Terminal.TheVariants.{CloseBrace}
use Rattle.parser_grammar.specs.declared.terminal.Terminal.TheVariants.{OpenSquare, OpenRepeat, CloseSquare, Comma}
use Rattle.parser_grammar.specs.declared.terminal.Terminal.TheVariants.{Semicolon}
use Rattle.parser_grammar.specs.declared.terminal.Terminal.TheVariants.{Colon, AtSign, Dot, Delay, Overlapped}
use Rattle.parser_grammar.specs.declared.terminal.Terminal.TheVariants.{Following}
use Rattle.parser_grammar.specs.declared.terminal.Terminal.TheVariants.{ForeignSymbol, Operator, End}
use Rattle.parser_grammar.specs.Terminals.{terminal, terminal_number, is}

-- the terminal of a number
abbrev terminal_at : ℕ → Terminal
terminal_at n =
    cond (eqb n 0) Counter
    (cond (eqb n 1) Clear
    (cond (eqb n 2) Load
    (cond (eqb n 3) Add
    (cond (eqb n 4) Sub
    (cond (eqb n 5) Sequence
    (cond (eqb n 6) EndSequence
    (cond (eqb n 7) Assert
    (cond (eqb n 8) Assume
    (cond (eqb n 9) Property
    (cond (eqb n 10) Posedge
    (cond (eqb n 11) Disable
    (cond (eqb n 12) Iff
    (cond (eqb n 13) Or
    (cond (eqb n 14) And
    (cond (eqb n 15) Throughout
    (cond (eqb n 16) ForeignWord
    (cond (eqb n 17) Name
    (cond (eqb n 18) Past
    (cond (eqb n 19) Rose
    (cond (eqb n 20) Fell
    (cond (eqb n 21) Stable
    (cond (eqb n 22) Changed
    (cond (eqb n 23) OneHot
    (cond (eqb n 24) OneHot0
    (cond (eqb n 25) ForeignSystem
    (cond (eqb n 26) Number
    (cond (eqb n 27) OpenRound
    (cond (eqb n 28) CloseRound
    (cond (eqb n 29) OpenBrace
    (cond (eqb n 30) CloseBrace
    (cond (eqb n 31) OpenSquare
    (cond (eqb n 32) OpenRepeat
    (cond (eqb n 33) CloseSquare
    (cond (eqb n 34) Comma
    (cond (eqb n 35) Semicolon
    (cond (eqb n 36) Colon
    (cond (eqb n 37) AtSign
    (cond (eqb n 38) Dot
    (cond (eqb n 39) Delay
    (cond (eqb n 40) Overlapped
    (cond (eqb n 41) Following
    (cond (eqb n 42) ForeignSymbol
    (cond (eqb n 43) Operator (cond (eqb n 44) End (Intersect)))))))))))))))))))))))))))))))))))))))))))))

back : (w : Terminal) → terminal_at (terminal_number w) ≡ w
back Counter = refl
back Clear = refl
back Load = refl
back Add = refl
back Sub = refl
back Sequence = refl
back EndSequence = refl
back Assert = refl
back Assume = refl
back Property = refl
back Posedge = refl
back Disable = refl
back Iff = refl
back Or = refl
back And = refl
back Throughout = refl
back ForeignWord = refl
back Name = refl
back Past = refl
back Rose = refl
back Fell = refl
back Stable = refl
back Changed = refl
back OneHot = refl
back OneHot0 = refl
back ForeignSystem = refl
back Number = refl
back OpenRound = refl
back CloseRound = refl
back OpenBrace = refl
back CloseBrace = refl
back OpenSquare = refl
back OpenRepeat = refl
back CloseSquare = refl
back Comma = refl
back Semicolon = refl
back Colon = refl
back AtSign = refl
back Dot = refl
back Delay = refl
back Overlapped = refl
back Following = refl
back ForeignSymbol = refl
back Operator = refl
back End = refl
back Intersect = refl

same_number : (v w : Terminal) → terminal_number v ≡ terminal_number w → v ≡ w
same_number v w e = sym (back v) ∙ ap terminal_at e ∙ back w

pub is-true : (w : Terminal) (t : Token) → is w t ≡ true → terminal t ≡ w
unfolding is
is-true w t h = same_number (terminal t) w (sym (eqb-true _ _ h))

pub is-false : (w : Terminal) (t : Token) → is w t ≡ false → terminal t ≡ w → ⊥
unfolding is
is-false w t h e = eqb-false _ _ h (ap terminal_number (sym e))

pub true-is : (w : Terminal) (t : Token) → terminal t ≡ w → is w t ≡ true
unfolding is
true-is w t e = eq-eqb _ _ (ap terminal_number (sym e))

pub false-is : (w : Terminal) (t : Token) → (terminal t ≡ w → ⊥) → is w t ≡ false
unfolding is
false-is w t h = ne_eqb _ _ (λ e. h (sym (same_number w (terminal t) e)))
