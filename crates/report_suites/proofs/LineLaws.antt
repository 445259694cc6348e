-- Lists in step that grow.
use Rattle.std.proofs.Common.{List, [], ◌∷◌, ◌++◌}
use Rattle.std.specs.List.{AllZip}

-- one more line
pub more_lines : {A B : Type 0} (P : A → B → Type 0) (a : A) (l : B) → P a l
    → (all : List A) (lines : List B)
    → AllZip P all lines → AllZip P (all ++ a ∷ []) (lines ++ l ∷ [])
more_lines P a l is [] [] h = (is, tt)
more_lines P a l is [] (m ∷ ls) h = elim h [ ]
more_lines P a l is (b ∷ more) [] h = elim h [ ]
more_lines P a l is (b ∷ more) (m ∷ ls) h = (h.0, more_lines P a l is more ls h.1)
