-- What is told of refusals, one by one.
use Rattle.std.proofs.Common.{◌≡◌, ◌∙◌, ◌++◌, ◌+◌, ◌<◌, ℕ, List, [], ◌∷◌, length, take, get_or, sym, ap, subst}
use Rattle.std.proofs.Common.{add-one}
use Rattle.std.specs.List.{AllZip}
use Rattle.std.proofs.lemmas.List.{flat_map_more}
use Rattle.std.proofs.Math.Seq.{take-suc}
use Rattle.source_files.specs.declared.added.Added.{Added}
use Rattle.source_files.specs.declared.part.Part.{Part}
use Rattle.diagnostics.specs.declared.front.Refusal.{Refusal}
use Rattle.lint.specs.Tells.{IsToldOf, AddsTold, TellsEach}

zip_last : {A B : Type 0} (P : A → B → Type 0) (x : A) (y : B) → P x y → (xs : List A) (ys : List B) → AllZip P xs ys
    → AllZip P (xs ++ x ∷ []) (ys ++ y ∷ [])
zip_last P x y is [] [] h = (is, tt)
zip_last P x y is [] (b ∷ ys) h = elim h [ ]
zip_last P x y is (a ∷ xs) [] h = elim h [ ]
zip_last P x y is (a ∷ xs) (b ∷ ys) h = (h.0, zip_last P x y is xs ys h.1)

-- none is told yet
pub tells_none : (parts : List Part) (added : List Added) (text : List ℕ) → text ≡ []
    → TellsEach parts added [] text
tells_none parts added text is = record { pieces = []; each = tt; is = is }

-- one more
pub tells_more : (parts : List Part) (added : List Added) (all : List Refusal) (i : ℕ) (d : Refusal)
    (old new : List ℕ)
    → i < length all → AddsTold parts added (get_or all i d) old new → TellsEach parts added (take i all) old
    → TellsEach parts added (take (i + 1) all) new
tells_more parts added all i d old new below more before =
    let front : take (i + 1) all ≡ take i all ++ get_or all i d ∷ [] =
    ap (λ (k : ℕ). take k all) (add-one i) ∙ take-suc all i d below in
    subst (λ (rs : List Refusal). TellsEach parts added rs new) (sym front)
    (record {
      pieces = before.pieces ++ more.piece ∷ [];
      each = zip_last (IsToldOf parts added) (get_or all i d) more.piece more.told (take i all) before.pieces
          before.each;
      is = more.is ∙ ap (λ (l : List ℕ). l ++ more.piece) before.is
          ∙ flat_map_more (λ (p : List ℕ). p) [] before.pieces more.piece;
    })
