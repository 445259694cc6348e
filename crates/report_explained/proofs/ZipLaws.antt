-- Lists in step that grow.
use Rattle.std.proofs.Common.{◌≡◌, ◌∙◌, ℕ, ◌+◌, ◌<◌, List, [], ◌∷◌, ◌++◌, length, take, get_or, sym, ap, subst, add-one}
use Rattle.std.specs.List.{AllZip}
use Rattle.std.proofs.Math.Seq.{take-suc}

pub zip_last : {A B : Type 0} (P : A → B → Type 0) (x : A) (y : B) → P x y → (xs : List A) (ys : List B)
    → AllZip P xs ys → AllZip P (xs ++ x ∷ []) (ys ++ y ∷ [])
zip_last P x y is [] [] h = (is, tt)
zip_last P x y is [] (b ∷ ys) h = elim h [ ]
zip_last P x y is (a ∷ xs) [] h = elim h [ ]
zip_last P x y is (a ∷ xs) (b ∷ ys) h = (h.0, zip_last P x y is xs ys h.1)

-- a front of the first list, and what was made of it
pub zip_more : {A B : Type 0} (P : A → B → Type 0) (all : List A) (i : ℕ) (d : A) (y : B) (old new : List B)
    → i < length all → new ≡ old ++ y ∷ [] → P (get_or all i d) y → AllZip P (take i all) old
    → AllZip P (take (i + 1) all) new
zip_more {A} {B} P all i d y old new below pushed is h =
    let front : take (i + 1) all ≡ take i all ++ get_or all i d ∷ [] =
    ap (λ (k : ℕ). take k all) (add-one i) ∙ take-suc all i d below in
    subst (λ (xs : List A). AllZip P xs new) (sym front)
    (subst (λ (ys : List B). AllZip P (take i all ++ get_or all i d ∷ []) ys) (sym pushed)
    (zip_last P (get_or all i d) y is (take i all) old h))
