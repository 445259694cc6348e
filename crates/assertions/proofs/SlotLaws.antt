-- The slots of marked places.
use Rattle.std.proofs.Common.{◌≡◌, ◌∙◌, ℕ, zero, suc, ◌+◌, ◌-◌, ◌≤◌, Bool, true, false, List, [], ◌∷◌, length}
use Rattle.std.proofs.Common.{slice_get, Some, refl, ap, sym, subst, arith, unwrap_or, IsTrue}
use Rattle.std.proofs.lemmas.Bool.{false≢true}
use Rattle.std.proofs.lemmas.Option.{slice_get_within}
use Rattle.assertions.specs.Marks.{places_from, slots_from}

-- what stands at a place of the list of marked places
pub record IsPlaceAt (first place : ℕ) (marks : List Bool) (i found : ℕ) : Type 0 where
  pub past : place ≤ found
  pub marked : slice_get marks (found - place) ≡ Some true
  pub slot : slice_get (slots_from first marks) (found - place) ≡ Some (first + i)

some-one : (a b : ℕ) → Some a ≡ Some b → a ≡ b
some-one a b e = ap (λ o. unwrap_or o a) e

pub place-at : (first place : ℕ) (marks : List Bool) (i found : ℕ) → slice_get (places_from place marks) i ≡ Some found
    → IsPlaceAt first place marks i found
place-at first place [] i found is = absurd (omega (arith, slice_get_within [] i found is))
place-at first place (true ∷ marks) zero found is =
    let here : place ≡ found = some-one place found is in
    let none : 0 ≡ found - place = omega (arith, here) in
    let sum : first ≡ first + 0 = omega arith in
    record {
      past = omega (arith, here);
      marked = ap (λ k. slice_get (true ∷ marks) k) (sym none);
      slot = ap (λ k. slice_get (first ∷ slots_from (first + 1) marks) k) (sym none) ∙ ap (λ s. Some s) sum;
    }
place-at first place (true ∷ marks) (suc i) found is =
    let more = place-at (first + 1) (place + 1) marks i found is in
    let back : found - place ≡ suc (found - (place + 1)) = omega (arith, more.past) in
    let sum : first + 1 + i ≡ first + suc i = omega arith in
    record {
      past = omega (arith, more.past);
      marked = ap (λ k. slice_get (true ∷ marks) k) back ∙ more.marked;
      slot = ap (λ k. slice_get (first ∷ slots_from (first + 1) marks) k) back ∙ more.slot ∙ ap (λ s. Some s) sum;
    }
place-at first place (false ∷ marks) i found is =
    let more = place-at first (place + 1) marks i found is in
    let back : found - place ≡ suc (found - (place + 1)) = omega (arith, more.past) in
    record {
      past = omega (arith, more.past);
      marked = ap (λ k. slice_get (false ∷ marks) k) back ∙ more.marked;
      slot = ap (λ k. slice_get (0 ∷ slots_from first marks) k) back ∙ more.slot;
    }

-- a marked place is in the list
pub marked-at : (place : ℕ) (marks : List Bool) (k : ℕ) → slice_get marks k ≡ Some true →
    (i : ℕ) × (slice_get (places_from place marks) i ≡ Some (place + k))
marked-at place [] k is = absurd (omega (arith, slice_get_within [] k true is))
marked-at place (true ∷ marks) zero is = let e : place ≡ place + 0 = omega arith in (0, ap (λ p. Some p) e)
marked-at place (false ∷ marks) zero is =
    absurd (subst (λ o. IsTrue (unwrap_or o false) → ⊥) is (λ h. false≢true h) refl)
marked-at place (true ∷ marks) (suc k) is =
    let more = marked-at (place + 1) marks k is in
    let e : place + 1 + k ≡ place + suc k = omega arith in
    (suc more.0, more.1 ∙ ap (λ p. Some p) e)
marked-at place (false ∷ marks) (suc k) is =
    let more = marked-at (place + 1) marks k is in
    let e : place + 1 + k ≡ place + suc k = omega arith in
    (more.0, more.1 ∙ ap (λ p. Some p) e)
