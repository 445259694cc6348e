-- What a piece of a text is, by its shape.
use Rattle.std.specs.Prelude.{◌≡◌, ℕ, ◌+◌, ◌<◌, ◌≤◌, List, length, slice_index, false}
use Rattle.import_tokens.specs.declared.cut.GapEnd.{GapEnd}
use Rattle.import_tokens.specs.declared.cut.GapEnd.TheVariants.{NoGap, Ends, Open}
use Rattle.import_tokens.specs.declared.token.Kind.{Kind}
use Rattle.import_tokens.specs.declared.token.Kind.TheVariants as kinds
use Rattle.import_tokens.specs.declared.piece.Shape.{Shape}
use Rattle.import_tokens.specs.declared.piece.Shape.TheVariants as shapes
use Rattle.import_tokens.specs.Gaps.{IsGap, HasPair, IsRun, is_name_part}

abbrev pub IsGapEnd : List ℕ → ℕ → GapEnd → Type 0
IsGapEnd text at NoGap = Unit {0}
IsGapEnd text at (Ends end) = (at < end) × (end ≤ length text) × IsGap text at end
IsGapEnd text at Open = HasPair text at 47 42

-- A name, all of it, after its first letter.
pub record IsName (text : List ℕ) (from to : ℕ) : Type 0 where
  pub rest : IsRun is_name_part text (from + 1) to
  pub whole : to < length text → is_name_part (slice_index text to) ≡ false

-- what a token's kind asks for
abbrev pub IsToken : Kind → List ℕ → ℕ → ℕ → Type 0
IsToken kinds.Word text from to = IsName text from to
IsToken (kinds.Keyword keyword) text from to = IsName text from to
IsToken kinds.System text from to = Unit {0}
IsToken kinds.Escaped text from to = Unit {0}
IsToken kinds.Number text from to = Unit {0}
IsToken kinds.Real text from to = Unit {0}
IsToken kinds.Quoted text from to = Unit {0}
IsToken (kinds.Symbol symbol) text from to = Unit {0}
IsToken (kinds.Macro fault) text from to = Unit {0}
IsToken kinds.Include text from to = Unit {0}
IsToken kinds.Stray text from to = Unit {0}
IsToken kinds.End text from to = Unit {0}

-- The bytes from one place up to another are of the shape: a gap, what begins with a mark, or a
-- token, which has what else its kind asks for.
abbrev pub IsOf : Shape → List ℕ → ℕ → ℕ → Type 0
IsOf shapes.Gap text from to = IsGap text from to
IsOf (shapes.Lexeme kind) text from to = IsToken kind text from to
IsOf shapes.Directive text from to = slice_index text from ≡ 96
IsOf (shapes.Mark mark) text from to = slice_index text from ≡ 96
