-- A text in pieces.
use Rattle.std.specs.Prelude.{◌≡◌, ℕ, ◌<◌, ◌≤◌, List, [], ◌∷◌, length, slice_range}
use Rattle.import_tokens.specs.declared.piece.Piece.{Piece}
use Rattle.import_tokens.specs.declared.fault.TokenFault.{TokenFault}
use Rattle.import_tokens.specs.declared.fault.TokenFault.TheVariants.{UnclosedComment, Memory}
use Rattle.import_tokens.specs.declared.fault.TokenFault.TheVariants as faults
use Rattle.import_tokens.specs.Gaps.{HasPair}
use Rattle.import_tokens.specs.Cuts.{IsOf}

-- A piece is the bytes of the text from its place up to another, and of its shape.
pub record IsPiece (text : List ℕ) (from to : ℕ) (piece : Piece) : Type 0 where
  pub at : piece.at ≡ from
  pub some : from < to
  pub inside : to ≤ length text
  pub bytes : piece.text.now ≡ slice_range text from to
  pub shape : IsOf piece.shape text from to

-- The pieces are the text from a place on, each next to the one before it.
pub data AreFrom : List ℕ → ℕ → List Piece → Type 0 where
  all : {text : List ℕ} → AreFrom text (length text) []
  more : {text : List ℕ} {from to : ℕ} {piece : Piece} {pieces : List Piece}
      → IsPiece text from to piece → AreFrom text to pieces → AreFrom text from (piece ∷ pieces)

-- A fault of the text as pieces: a comment begins there.
abbrev pub IsOpenIn : List ℕ → TokenFault → Type 0
IsOpenIn text (UnclosedComment at) = HasPair text at 47 42
IsOpenIn text (faults.StrayConditional at) = ⊥
IsOpenIn text (faults.UnclosedConditional at) = ⊥
IsOpenIn text Memory = Unit {0}
