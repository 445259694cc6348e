-- Numbers below a count.
use Rattle.std.proofs.Common.{◌≡◌, ◌⊎◌, inl, inr, ℕ, ◌<◌, ◌≤◌, ◌&&◌, List, [], ◌∷◌, ◌++◌, Bool, true, false, map}
use Rattle.std.proofs.Common.{length, get_or, nat_lt, Option, Some, None, slice_get, refl, sym, ap, subst, ◌∙◌, arith}
use Rattle.std.proofs.lemmas.Bool.{and_parts, and_from, ltb-true, lt-ltb, cases_lt}
use Rattle.std.proofs.lemmas.List.{length-map}
use Rattle.std.proofs.lemmas.Option.{slice_get-map, slice_get-get_or, slice_get_past}
use Rattle.std.specs.Prelude.{option_map}
use Rattle.assertions.specs.declared.sequence.Boolean.{Boolean}
use Rattle.types.specs.declared.draft.Draft.{Draft}
use Rattle.types.specs.declared.draft.Draft.TheVariants as form
use Rattle.types.specs.Drafts as drafts
use Rattle.types.specs.Drafts.{IsNumberIn, uses, uses_of, uses_at, AllDeclared}
use Rattle.types.specs.Views.{draft_of}
use Rattle.types.specs.Marks.{all_below}

and-assoc : (a b c : Bool) → ((a && b) && c) ≡ (a && (b && c))
and-assoc true b c = refl
and-assoc false b c = refl

pub all_below-append : (count : ℕ) (xs ys : List ℕ) → all_below count (xs ++ ys)
    ≡ (all_below count xs && all_below count ys)
all_below-append count [] ys = refl
all_below-append count (x ∷ xs) ys =
    ap (λ (b : Bool). nat_lt x count && b) (all_below-append count xs ys)
    ∙ sym (and-assoc (nat_lt x count) (all_below count xs) (all_below count ys))

pub below_of : (count : ℕ) (xs : List ℕ) (p : ℕ) → all_below count xs ≡ true → IsNumberIn p xs → p < count
below_of count [] p h i = elim i [ ]
below_of count (x ∷ xs) p h i =
    let parts = and_parts (nat_lt x count) (all_below count xs) h in
    elim i [
      | inl e ↦ omega (arith, e, ltb-true x count parts.0)
      | inr there ↦ below_of count xs p parts.1 there
    ]

pub all_below_of : (count : ℕ) (xs : List ℕ) → ((p : ℕ) → IsNumberIn p xs → p < count) → all_below count xs ≡ true
all_below_of count [] h = refl
all_below_of count (x ∷ xs) h =
    and_from (nat_lt x count) (all_below count xs) (lt-ltb x count (h x (inl refl)))
    (all_below_of count xs (λ p i. h p (inr i)))

-- where all are declared, each declaration's names are below the count of declarations
pub each_below : (bodies : List Draft) → ((p : ℕ) → AllDeclared (map draft_of bodies) p) → (k : ℕ) (d : Draft)
    → k < length bodies → all_below (length bodies) (uses (draft_of (get_or bodies k d))) ≡ true
each_below bodies all k d h =
    all_below_of (length bodies) (uses (draft_of (get_or bodies k d)))
    (λ q i. rw (length-map bodies draft_of) at (all k q (there q i)))
  where
    there : (q : ℕ) → IsNumberIn q (uses (draft_of (get_or bodies k d)))
        → IsNumberIn q (uses_at (map draft_of bodies) k)
    there q i =
        subst (λ (o : Option (drafts.Draft Boolean)). IsNumberIn q (uses_of o))
        (sym (slice_get-map draft_of bodies k ∙ ap (option_map draft_of) (slice_get-get_or bodies k d h))) i

-- where each declaration's names are below the count of declarations, all are declared
pub all_declared : (bodies : List Draft)
    → ((k : ℕ) (d : Draft) → k < length bodies → all_below (length bodies) (uses (draft_of (get_or bodies k d)))
    ≡ true) → (p : ℕ) → AllDeclared (map draft_of bodies) p
all_declared bodies each p q i = by_place (cases_lt p (length bodies))
  where
    at : (o : Option (drafts.Draft Boolean)) → slice_get (map draft_of bodies) p ≡ o → IsNumberIn q (uses_of o)
    at o e = subst (λ (x : Option (drafts.Draft Boolean)). IsNumberIn q (uses_of x)) e i

    by_place : (p < length bodies) ⊎ (length bodies ≤ p) → q < length (map draft_of bodies)
    by_place (inl h) =
        let here =
        at (Some (draft_of (get_or bodies p form.One))) (slice_get-map draft_of bodies p
        ∙ ap (option_map draft_of) (slice_get-get_or bodies p form.One h)) in
        rw (length-map bodies draft_of)
        (below_of (length bodies) (uses (draft_of (get_or bodies p form.One))) q (each p form.One h) here)
    by_place (inr h) =
        elim (at None (slice_get-map draft_of bodies p ∙ ap (option_map draft_of) (slice_get_past bodies p h))) [ ]

pub ruleset for_below = (all_below-append)
