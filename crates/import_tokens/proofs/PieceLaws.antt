-- Pieces, one after another.
use Rattle.std.proofs.Common.{◌≡◌, ℕ, ◌≤◌, List, [], ◌∷◌, ◌++◌, length, sym, subst, arith, append_assoc, append-nil}
use Rattle.import_tokens.specs.declared.piece.Piece.{Piece}
use Rattle.import_tokens.specs.Pieces.{IsPiece, AreFrom, all, more}

-- what the pieces so far make of those from a place on
abbrev pub Makes : List ℕ → ℕ → List Piece → Type 0
Makes text at pieces = (rest : List Piece) → AreFrom text at rest → AreFrom text 0 (pieces ++ rest)

pub piece_more : {text : List ℕ} {at to : ℕ} {piece : Piece} (before after : List Piece) → after ≡ before ++ piece ∷ []
    → IsPiece text at to piece → Makes text at before → Makes text to after
piece_more {text = text} {piece = piece} before after e is so_far rest h =
    let grouped : before ++ (piece ∷ rest) ≡ (before ++ piece ∷ []) ++ rest =
    sym (append_assoc before (piece ∷ []) rest) in
    subst (λ (ps : List Piece). AreFrom text 0 (ps ++ rest)) (sym e)
    (subst (λ (ps : List Piece). AreFrom text 0 ps) grouped (so_far (piece ∷ rest) (more is h)))

pub pieces_all : (text : List ℕ) (at : ℕ) (pieces : List Piece) → at ≤ length text → length text ≤ at
    → Makes text at pieces → AreFrom text 0 pieces
pieces_all text at pieces high low so_far =
    let end : length text ≡ at = omega arith in
    subst (λ (ps : List Piece). AreFrom text 0 ps) (append-nil pieces)
    (so_far [] (subst (λ (n : ℕ). AreFrom text n []) end all))
