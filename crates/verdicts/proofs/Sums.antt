-- Lists of shares that grow or shrink at their end.
use Rattle.std.proofs.Common.{◌≡◌, ◌+◌, ℕ, List, [], ◌∷◌, ◌++◌, ◌∙◌, ap, All, arith}
use Rattle.std.specs.List.{sum_by}
use Rattle.std.proofs.lemmas.List.Sums.{sum_by_push}
use Rattle.std.proofs.lemmas.List.Elements.{All-push, All-same}
use Rattle.verdicts.specs.declared.tally.Share.{Share}
use Rattle.verdicts.specs.Shares.{IsFresh}

pub all_fresh_pushed : {L : Type 0} (xs ys : List (Share L)) (x : Share L) → ys ≡ xs ++ x ∷ [] → All IsFresh xs
    → IsFresh x → All IsFresh ys
all_fresh_pushed xs ys x is old new = All-same IsFresh _ _ is (All-push IsFresh xs x old new)

pub sum_by_popped : {X : Type 0} (f : X → ℕ) (xs ys : List X) (x : X) → xs ≡ ys ++ x ∷ [] → sum_by f xs
    ≡ sum_by f ys + f x
sum_by_popped f xs ys x is = ap (sum_by f) is ∙ sum_by_push f ys x
