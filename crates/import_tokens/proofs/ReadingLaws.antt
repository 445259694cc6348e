-- Tokens, added one after another.
use Rattle.std.proofs.Common.{◌≡◌, ℕ, zero, suc, ◌+◌, ◌-◌, ◌<◌, ◌≤◌, List, [], ◌∷◌, ◌++◌, length, drop, get_or, false}
use Rattle.std.proofs.Common.{refl, sym, ap, ◌∙◌, subst, arith, add-one, append_assoc, append-nil, drop-cons}
use Rattle.std.proofs.Math.ListN.{drop_of_length-le}
use Rattle.std.proofs.Math.Seq.{drop-nil}
use Rattle.std.proofs.lemmas.List.{length-drop}
use Rattle.std.specs.Prelude.{slice_index}
use Rattle.std.specs.List.{AllByRecursion}
use Rattle.import_tokens.specs.declared.piece.Piece.{Piece}
use Rattle.import_tokens.specs.declared.piece.Shape.{Shape}
use Rattle.import_tokens.specs.declared.piece.Shape.TheVariants as shapes
use Rattle.import_tokens.specs.declared.token.Kind.{Kind}
use Rattle.import_tokens.specs.declared.token.Token.{Token}
use Rattle.import_tokens.specs.Gaps.{IsGap}
use Rattle.import_tokens.specs.Cuts.{IsOf, IsToken}
use Rattle.import_tokens.specs.Pieces.{IsPiece, AreFrom, all, more}
use Rattle.import_tokens.specs.Readings.{Adds, Reads, IsWritten, IsEnd, at_end, over_gap, over_token, over_directive}

abbrev IsAt : ℕ → Token → Type 0
IsAt at token = token.at ≡ at

pub adds_none : (at : ℕ) (tokens : List Token) → Adds at tokens tokens
adds_none at tokens = record { made = []; joined = sym (append-nil tokens); placed = tt }

placed_more : (at : ℕ) (made : List Token) (token : Token) → AllByRecursion (IsAt at) made → token.at ≡ at
    → AllByRecursion (IsAt at) (made ++ token ∷ [])
placed_more at [] token h e = (e, tt)
placed_more at (one ∷ made) token h e = (h.0, placed_more at made token h.1 e)

pub adds_more : (at : ℕ) (before so_far after : List Token) (token : Token) → Adds at before so_far
    → after ≡ so_far ++ token ∷ [] → token.at ≡ at → Adds at before after
adds_more at before so_far after token h e is = record {
  made = h.made ++ token ∷ [];
  joined = e ∙ ap (λ (ts : List Token). ts ++ token ∷ []) h.joined ∙ append_assoc before h.made (token ∷ []);
  placed = placed_more at h.made token h.placed is;
}

pub adds_one : (at : ℕ) (before after : List Token) (token : Token) → after ≡ before ++ token ∷ [] → token.at ≡ at
    → Adds at before after
adds_one at before after token e is = record { made = token ∷ []; joined = e; placed = (is, tt) }

-- The pieces that are left are the text from a place on, and the tokens so far are those before it.
pub record Stands (text : List ℕ) (pieces : List Piece) (index : ℕ) (tokens : List Token) : Type 0 where
  pub inside : index ≤ length pieces
  pub from : ℕ
  pub left : AreFrom text from (drop index pieces)
  pub so_far : (rest : List Token) → Reads text from rest → Reads text 0 (tokens ++ rest)

pub stands_first : (text : List ℕ) (pieces : List Piece) → AreFrom text 0 pieces → Stands text pieces 0 []
stands_first text pieces h = record { inside = omega arith; from = 0; left = h; so_far = λ rest r. r }

-- the first piece, and those after it
record First (text : List ℕ) (from : ℕ) (piece : Piece) (pieces : List Piece) : Type 0 where
  to : ℕ
  is : IsPiece text from to piece
  left : AreFrom text to pieces

first_of : {text : List ℕ} {from : ℕ} {piece : Piece} {pieces : List Piece} → AreFrom text from (piece ∷ pieces)
    → First text from piece pieces
first_of (more {to = to} is left) = record { to = to; is = is; left = left }

none_left : {text : List ℕ} {from : ℕ} → AreFrom text from [] → length text ≡ from
none_left all = refl

at_index : (text : List ℕ) (pieces : List Piece) (index : ℕ) (tokens : List Token) (piece : Piece)
    → (s : Stands text pieces index tokens) → index < length pieces → piece ≡ get_or pieces index piece
    → First text s.from piece (drop (index + 1) pieces)
at_index text pieces index tokens piece s lt e =
    let cell : drop index pieces ≡ piece ∷ drop (index + 1) pieces =
    rw add-one (drop-cons pieces index piece lt ∙ ap (λ (p : Piece). p ∷ drop (suc index) pieces) (sym e)) in
    first_of (subst (λ (ps : List Piece). AreFrom text s.from ps) cell s.left)

module _ (text : List ℕ) (pieces : List Piece) (index : ℕ) (tokens : List Token) (piece : Piece)
    (s : Stands text pieces index tokens) (lt : index < length pieces) (e : piece ≡ get_or pieces index piece) where
  pub over_a_gap : piece.shape ≡ shapes.Gap → Stands text pieces (index + 1) tokens
  over_a_gap shape =
      let f = at_index text pieces index tokens piece s lt e in
      let is_gap : IsGap text s.from f.to = subst (λ (x : Shape). IsOf x text s.from f.to) shape f.is.shape in record {
        inside = omega arith;
        from = f.to;
        left = f.left;
        so_far = λ rest r. s.so_far rest (over_gap f.is.some f.is.inside is_gap r);
      }

  pub over_a_token : (after : List Token) (kind : Kind) → piece.shape ≡ shapes.Lexeme kind
      → after ≡ tokens ++ record { kind = kind; at = piece.at; made = false; text = piece.text } ∷ []
      → Stands text pieces (index + 1) after
  over_a_token after kind shape joined =
      let f = at_index text pieces index tokens piece s lt e in
      let token : Token = record { kind = kind; at = piece.at; made = false; text = piece.text } in
      let is_token : IsToken kind text s.from f.to =
      subst (λ (x : Shape). IsOf x text s.from f.to) shape f.is.shape in
      let is : IsWritten text s.from f.to token = record {
        at = f.is.at;
        some = f.is.some;
        inside = f.is.inside;
        bytes = f.is.bytes;
        kind = is_token;
        made = refl;
      } in record {
        inside = omega arith;
        from = f.to;
        left = f.left;
        so_far = λ rest r.
            subst (λ (ts : List Token). Reads text 0 ts)
            (sym (append_assoc tokens (token ∷ []) rest) ∙ ap (λ (ts : List Token). ts ++ rest) (sym joined))
            (s.so_far (token ∷ rest) (over_token is r));
      }

-- the pieces from a later one on
record Later (text : List ℕ) (from : ℕ) (pieces : List Piece) : Type 0 where
  to : ℕ
  some : from < to
  inside : to ≤ length text
  left : AreFrom text to pieces

later : (text : List ℕ) (from : ℕ) (pieces : List Piece) (n : ℕ) → AreFrom text from pieces → 0 < n
    → n ≤ length pieces → Later text from (drop n pieces)
later text from [] n h some le = absurd (omega arith)
later text from (piece ∷ pieces) zero h some le = absurd (omega arith)
later text from (piece ∷ pieces) (suc zero) h some le =
    let f = first_of h in record { to = f.to; some = f.is.some; inside = f.is.inside; left = f.left }
later text from (piece ∷ pieces) (suc (suc n)) h some le =
    let f = first_of h in
    let g = later text f.to pieces (suc n) f.left (omega arith) (omega arith) in
    record { to = g.to; some = omega (arith, f.is.some, g.some); inside = g.inside; left = g.left }

drop-later : {A : Type 0} (xs : List A) (i n : ℕ) → drop n (drop i xs) ≡ drop (i + n) xs
drop-later xs zero n = let e : n ≡ 0 + n = omega arith in ap (λ k. drop k xs) e
drop-later [] (suc i) n = drop-nil n ∙ sym (drop-nil (suc i + n))
drop-later (x ∷ xs) (suc i) n =
    let e : suc (i + n) ≡ suc i + n = omega arith in drop-later xs i n ∙ ap (λ k. drop k (x ∷ xs)) e

left_after : (text : List ℕ) (pieces : List Piece) (index after : ℕ) (tokens : List Token)
    → (s : Stands text pieces index tokens) → index < after → after ≤ length pieces
    → Later text s.from (drop after pieces)
left_after text pieces index after tokens s lt le =
    let n : index + (after - index) ≡ after = omega arith in
    let fits : after - index ≤ length (drop index pieces) = omega (arith, length-drop index pieces) in
    subst (λ (ps : List Piece). Later text s.from ps)
    (drop-later pieces index (after - index) ∙ ap (λ k. drop k pieces) n)
    (later text s.from (drop index pieces) (after - index) s.left (omega arith) fits)

module _ (text : List ℕ) (pieces : List Piece) (index after : ℕ) (before tokens : List Token) (piece : Piece)
    (s : Stands text pieces index before) (lt : index < length pieces) (e : piece ≡ get_or pieces index piece)
    (up : index < after) (le : after ≤ length pieces) (adds : Adds piece.at before tokens) where
  -- what a shape asks for that begins with a mark
  pub over_a_mark : (shape : Shape) → piece.shape ≡ shape
      → ((from to : ℕ) → IsOf shape text from to → slice_index text from ≡ 96) → Stands text pieces after tokens
  over_a_mark shape is marks =
      let f = at_index text pieces index before piece s lt e in
      let g = left_after text pieces index after before s up le in
      let mark : slice_index text s.from ≡ 96 =
      marks s.from f.to (subst (λ (x : Shape). IsOf x text s.from f.to) is f.is.shape) in
      let placed : AllByRecursion (IsAt s.from) adds.made =
      subst (λ (n : ℕ). AllByRecursion (IsAt n) adds.made) f.is.at adds.placed in record {
        inside = le;
        from = g.to;
        left = g.left;
        so_far = λ rest r.
            subst (λ (ts : List Token). Reads text 0 ts)
            (sym (append_assoc before adds.made rest) ∙ ap (λ (ts : List Token). ts ++ rest) (sym adds.joined))
            (s.so_far (adds.made ++ rest) (over_directive adds.made mark g.some g.inside placed r));
      }

pub reads_all : (text : List ℕ) (pieces : List Piece) (index : ℕ) (tokens after : List Token) (last : Token)
    → Stands text pieces index tokens → length pieces ≤ index → after ≡ tokens ++ last ∷ [] → IsEnd text last
    → Reads text 0 after
reads_all text pieces index tokens after last s le joined is =
    let end : length text ≡ s.from =
    none_left (subst (λ (ps : List Piece). AreFrom text s.from ps) (drop_of_length-le pieces le) s.left) in
    subst (λ (ts : List Token). Reads text 0 ts) (sym joined)
    (s.so_far (last ∷ []) (subst (λ (n : ℕ). Reads text n (last ∷ [])) end (at_end is)))
