use Rattle.std.proofs.Common.{◌≡◌, ◌≢◌, ◌⊎◌, inl, inr, ◌<◌, ◌+◌, ℕ, List, [], ◌∷◌, ◌++◌, sym, subst, arith}
use Rattle.std.proofs.lemmas.Bool.{cases_eq}
use Rattle.types.specs.Drafts.{IsNumberIn}
use Rattle.types.proofs.InLaws.{in_front, in_back}
use Rattle.types.proofs.cyclic.all_places.Goals as goal

pushed : (n p : ℕ) (xs : List ℕ) → ((q : ℕ) → q < n → IsNumberIn q xs) → p < n + 1 → IsNumberIn p (xs ++ n ∷ [])
pushed n p xs below h = by_place (cases_eq p n)
  where
    by_place : (p ≡ n) ⊎ (p ≢ n) → IsNumberIn p (xs ++ n ∷ [])
    by_place (inl e) = in_back p xs (n ∷ []) (inl e)
    by_place (inr d) = in_front p xs (n ∷ []) (below p (omega (arith, h, d)))

pub loop-place-preserved : goal.loop-place-preserved
loop-place-preserved c =
    λ p h. subst (λ (xs : List ℕ). IsNumberIn p xs) (sym c.in_ok-push.ensures.items)
    (pushed c.loop-place.place p c.loop-place.places.items c.loop-place.invariant h)
