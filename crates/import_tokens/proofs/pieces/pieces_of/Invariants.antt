use Rattle.std.proofs.Common.{◌-◌, ◌≤◌, List, ◌++◌, length}
use Rattle.import_tokens.specs.declared.piece.Piece.{Piece}
use Rattle.import_tokens.specs.Pieces.{AreFrom}
use Rattle.import_tokens.proofs.pieces.pieces_of.Given as goal

abbrev pub invariant-loop-at : goal.invariant-loop-at
invariant-loop-at l = record {
  inside : l.at ≤ length l.text;
  so_far : (rest : List Piece) → AreFrom l.text l.at rest → AreFrom l.text 0 (l.pieces.items ++ rest);
}

abbrev pub decreases-loop-at : goal.decreases-loop-at
decreases-loop-at l = length l.text - l.at
