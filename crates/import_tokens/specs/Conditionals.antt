-- The directives of conditionals among the pieces of a text (IEEE 1800-2017, 22.6).
use Rattle.std.specs.Prelude.{ℕ, List, [], ◌∷◌, Bool, false, true, Option, Some, None, not}
use Rattle.std.specs.Prelude.{if◌then◌else◌, ◌||◌, ◌&&◌, ◌==◌, codes}
use Rattle.std.specs.List.{list_any}
use Rattle.std.specs.Str.{bytes_eq}
use Rattle.import_tokens.specs.declared.conditional.Conditional.{Conditional}
use Rattle.import_tokens.specs.declared.piece.Piece.{Piece}
use Rattle.import_tokens.specs.declared.piece.Shape.{Shape}
use Rattle.import_tokens.specs.declared.piece.Shape.TheVariants as shapes
use Rattle.import_tokens.specs.declared.turn.Turn.{Turn}
use Rattle.import_tokens.specs.declared.turn.Turn.TheVariants.{If, ElseIf, Else, EndIf}
use Rattle.import_tokens.specs.Gaps.{is_white}

-- what the directive of a name, with its mark, does in a conditional
abbrev pub turn_of : List ℕ → Option Turn
turn_of name =
    if bytes_eq name (codes "`ifdef") || bytes_eq name (codes "`ifndef") then Some If
    else (if bytes_eq name (codes "`elsif") then Some ElseIf
    else (if bytes_eq name (codes "`else") then Some Else
    else (if bytes_eq name (codes "`endif") then Some EndIf
    else None)))

abbrev pub is_directive : Shape → Bool
is_directive shapes.Directive = true
is_directive shape = false

-- white space in which a line ends
abbrev pub ends_line : List ℕ → Bool
ends_line [] = false
ends_line (first ∷ rest) = is_white first && list_any (λ b. b == 10) (first ∷ rest)

-- a macro's definition begins
abbrev pub is_definition : Piece → Bool
is_definition piece = is_directive piece.shape && bytes_eq piece.text.now (codes "`define")

-- whether a piece stands in a macro's definition, which goes to the end of its line (22.5.1), where
-- the piece before it does or doesn't
abbrev pub is_defining : Bool → Piece → Bool
is_defining before piece = not (ends_line piece.text.now) && (before || is_definition piece)

-- what a piece does in a conditional; none in a definition, where it is part of the macro's text
abbrev pub turn_in : Bool → Piece → Option Turn
turn_in defining piece =
    if defining then None else (if is_directive piece.shape then turn_of piece.text.now else None)

-- what does something in a conditional, before others
abbrev pub with_turn : Option Turn → ℕ → List Conditional → List Conditional
with_turn None at rest = rest
with_turn (Some turn) at rest = record { turn = turn; at = at } ∷ rest

-- the directives of conditionals among pieces, in order, where what stands before them is in a
-- definition or isn't
unfoldable pub conditionals : Bool → List Piece → List Conditional
conditionals before [] = []
conditionals before (piece ∷ pieces) =
    let defining = is_defining before piece in
    with_turn (turn_in defining piece) piece.at (conditionals defining pieces)
