-- The directives of conditionals, piece by piece.
use Rattle.std.proofs.Common.{◌≡◌, ℕ, suc, ◌+◌, ◌<◌, ◌≤◌, Bool, List, [], ◌++◌, Option, Some, None, length, drop}
use Rattle.std.proofs.Common.{get_or, refl, sym, ap, ◌∙◌, add-one, drop-cons, append_assoc, append-nil}
use Rattle.std.proofs.Math.ListN.{drop_of_length-le}
use Rattle.import_tokens.specs.declared.conditional.Conditional.{Conditional}
use Rattle.import_tokens.specs.declared.piece.Piece.{Piece}
use Rattle.import_tokens.specs.declared.turn.Turn.{Turn}
use Rattle.import_tokens.specs.Conditionals.{is_defining, turn_in, with_turn, conditionals}

before_rest : (turn : Option Turn) (at : ℕ) (rest : List Conditional)
    → with_turn turn at rest ≡ with_turn turn at [] ++ rest
before_rest None at rest = refl
before_rest (Some turn) at rest = refl

-- one piece more
pub found_more : (pieces : List Piece) (index : ℕ) (d : Piece) → index < length pieces → (before here : Bool)
    (turn : Option Turn) (found after all : List Conditional) → here ≡ is_defining before (get_or pieces index d)
    → turn ≡ turn_in here (get_or pieces index d) → found ++ conditionals before (drop index pieces) ≡ all
    → after ≡ found ++ with_turn turn (get_or pieces index d).at []
    → after ++ conditionals here (drop (index + 1) pieces) ≡ all
unfolding conditionals
found_more pieces index d lt before here turn found after all is_here is_turn so_far e =
    let one = get_or pieces index d in
    let rest = conditionals here (drop (index + 1) pieces) in
    ap (λ (cs : List Conditional). cs ++ rest) e ∙ append_assoc found (with_turn turn one.at []) rest
    ∙ ap (λ (cs : List Conditional). found ++ cs) (sym (before_rest turn one.at rest))
    ∙ ap (λ (t : Option Turn). found ++ with_turn t one.at rest) is_turn
    ∙ ap (λ (n : ℕ). found ++ with_turn (turn_in here one) one.at (conditionals here (drop n pieces))) (add-one index)
    ∙ ap (λ (b : Bool). found ++ with_turn (turn_in b one) one.at (conditionals b (drop (suc index) pieces))) is_here
    ∙ ap (λ (ps : List Piece). found ++ conditionals before ps) (sym (drop-cons pieces index d lt)) ∙ so_far

pub found_all : (pieces : List Piece) (index : ℕ) (before : Bool) (found all : List Conditional) → length pieces ≤ index
    → found ++ conditionals before (drop index pieces) ≡ all → found ≡ all
unfolding conditionals
found_all pieces index before found all le so_far =
    sym (append-nil found)
    ∙ ap (λ (ps : List Piece). found ++ conditionals before ps) (sym (drop_of_length-le pieces le)) ∙ so_far
