-- Why a text is not read.
use Rattle.std.specs.Prelude.{ℕ, List, false}
use Rattle.import_tokens.specs.declared.conditional.Conditional.{Conditional}
use Rattle.import_tokens.specs.declared.fault.TokenFault.{TokenFault}
use Rattle.import_tokens.specs.declared.fault.TokenFault.TheVariants as faults
use Rattle.import_tokens.specs.declared.piece.Piece.{Piece}
use Rattle.import_tokens.specs.Gaps.{HasPair}
use Rattle.import_tokens.specs.Pieces.{AreFrom}
use Rattle.import_tokens.specs.Conditionals.{conditionals}
use Rattle.import_tokens.specs.Nesting.{Nest, IsStray, IsUnclosed}

-- The directives of the text's conditionals, each where it stands, are such ones.
pub record Have (text : List ℕ) (such : List Conditional → Type 0) : Type 0 where
  pub pieces : List Piece
  pub whole : AreFrom text 0 pieces
  pub are : such (conditionals false pieces)

-- Its conditionals nest.
abbrev pub IsNested : List ℕ → Type 0
IsNested text = Have text Nest

-- What a fault says of the text.
abbrev pub IsFaultOf : List ℕ → TokenFault → Type 0
IsFaultOf text (faults.UnclosedComment at) = HasPair text at 47 42
IsFaultOf text (faults.StrayConditional at) = Have text (λ found. IsStray found at)
IsFaultOf text (faults.UnclosedConditional at) = Have text (λ found. IsUnclosed found at)
IsFaultOf text faults.Memory = Unit {0}
