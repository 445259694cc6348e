-- Where each declaration without an entry uses one without an entry, each of them reaches one that reaches itself.
use Rattle.std.proofs.Common.{◌≡◌, ◌⊎◌, inl, inr, ℕ, zero, suc, ◌+◌, ◌<◌, ◌≤◌, List, [], ◌∷◌, true, false, length}
use Rattle.std.proofs.Common.{Option, refl, sym, subst, ◌∙◌, arith}
use Rattle.std.specs.List.{IsDistinct, AllByRecursion, list_any}
use Rattle.std.proofs.lemmas.Map.Keys.{IsDistinct-cons}
use Rattle.std.proofs.Math.Dec.{eqb}
use Rattle.std.proofs.lemmas.Bool.{cases_Bool, or_cases, or_parts, eqb-true, false≢true}
use Rattle.std.proofs.lemmas.Map.Steps.{length-le_from_distinct_below}
use Rattle.types.specs.declared.entry.Entry.{Entry}
use Rattle.types.specs.Drafts.{IsNumberIn, uses_at, reaches_by, AllDeclared}
use Rattle.types.specs.Sweeps.{Reaches}
use Rattle.types.specs.Cycles.{ReachesCycle}
use Rattle.types.specs.Entries.{Bodies, has_entry, Accounts, AllLack}

-- a declaration without an entry
pub record IsStuck (bodies : Bodies) (table : List (Option Entry)) (p : ℕ) : Type 0 where
  pub declared : p < length bodies
  pub lacking : has_entry table p ≡ false

-- each of these reaches the place
abbrev pub AllReach : Bodies → List ℕ → ℕ → Type 0
AllReach bodies visited p =
    (v : ℕ) → list_any (eqb v) visited ≡ true → (v < length bodies) × ((more : ℕ) × reaches_by bodies more v p)

reaches_on : (bodies : Bodies) (more v p q : ℕ) → reaches_by bodies more v p → IsNumberIn q (uses_at bodies p)
    → reaches_by bodies (suc more) v q
reaches_on bodies zero v p q r u = (p, r, u)
reaches_on bodies (suc more) v p q r u = (r.0, r.1, reaches_on bodies more r.0 p q r.2 u)

all_reach_on : (bodies : Bodies) (visited : List ℕ) (p q : ℕ) → p < length bodies → IsNumberIn q (uses_at bodies p)
    → AllReach bodies visited p → AllReach bodies (p ∷ visited) q
all_reach_on bodies visited p q h u all v here = by_place (or_cases (eqb v p) (list_any (eqb v) visited) here)
  where
    by_place : (eqb v p ≡ true) ⊎ (list_any (eqb v) visited ≡ true) → (v < length bodies)
        × ((more : ℕ) × reaches_by bodies more v q)
    by_place (inl e) =
        subst (λ (x : ℕ). (x < length bodies) × ((more : ℕ) × reaches_by bodies more x q)) (sym (eqb-true v p e))
        (h, (0, u))
    by_place (inr i) = let r = all v i in (r.0, (suc r.1.0, reaches_on bodies r.1.0 v p q r.1.1 u))

below_all : (bodies : Bodies) (visited : List ℕ) (p : ℕ) → p < length bodies → AllReach bodies visited p → (v : ℕ)
    → list_any (eqb v) (p ∷ visited) ≡ true → v < length bodies
below_all bodies visited p h all v here = by_place (or_cases (eqb v p) (list_any (eqb v) visited) here)
  where
    by_place : (eqb v p ≡ true) ⊎ (list_any (eqb v) visited ≡ true) → v < length bodies
    by_place (inl e) = subst (λ (x : ℕ). x < length bodies) (sym (eqb-true v p e)) h
    by_place (inr i) = (all v i).0

-- a use of a declaration without an entry, that has none itself
abbrev pub StuckUse : Bodies → List (Option Entry) → ℕ → Type 0
StuckUse bodies table p = (q : ℕ) × IsNumberIn q (uses_at bodies p) × IsStuck bodies table q

none_same : (p : ℕ) (xs : List ℕ) → list_any (eqb p) xs ≡ false → AllByRecursion (λ y. eqb p y ≡ false) xs
none_same p [] h = tt
none_same p (x ∷ xs) h = let parts = or_parts (eqb p x) (list_any (eqb p) xs) h in (parts.0, none_same p xs parts.1)

-- the place was visited, or there is one more that was
too_many : (bodies : Bodies) (visited : List ℕ) (p : ℕ) → p < length bodies → AllReach bodies visited p
    → IsDistinct eqb visited → list_any (eqb p) visited ≡ false → length visited + 1 ≤ length bodies
too_many bodies visited p h all d apart =
    omega (
      arith,
      length-le_from_distinct_below (p ∷ visited) (length bodies)
          (IsDistinct-cons eqb p visited (none_same p visited apart) d) (below_all bodies visited p h all),
    )

-- The walk began at the place, or at one that reaches it.
abbrev pub CameFrom : Bodies → ℕ → ℕ → Type 0
CameFrom bodies origin p = (origin ≡ p) ⊎ Reaches bodies origin p

came_on : (bodies : Bodies) (origin p q : ℕ) → CameFrom bodies origin p → IsNumberIn q (uses_at bodies p)
    → CameFrom bodies origin q
came_on bodies origin p q (inl e) u = inr (0, subst (λ (x : ℕ). IsNumberIn q (uses_at bodies x)) (sym e) u)
came_on bodies origin p q (inr r) u = inr (suc r.0, reaches_on bodies r.0 origin p q r.1 u)

came_back : (bodies : Bodies) (visited : List ℕ) (origin p : ℕ) → CameFrom bodies origin p → AllReach bodies visited p
    → list_any (eqb p) visited ≡ true → ReachesCycle bodies origin
came_back bodies visited origin p from all here = record { place = p; cyclic = (all p here).1; reached = from }

mutual
  walk : (bodies : Bodies) (table : List (Option Entry)) → ((p : ℕ) → IsStuck bodies table p → StuckUse bodies table p)
      →
      (fuel : ℕ) (visited : List ℕ) (origin p : ℕ) → CameFrom bodies origin p → IsStuck bodies table p
      → AllReach bodies visited p → IsDistinct eqb visited →
      length visited + fuel ≡ length bodies + 1 → ReachesCycle bodies origin
  walk bodies table step zero visited origin p from s all d e =
      elim (cases_Bool (list_any (eqb p) visited)) [
        | inl here ↦ came_back bodies visited origin p from all here
        | inr apart ↦ absurd (omega (arith, e, too_many bodies visited p s.declared all d apart))
      ]
  walk bodies table step (suc fuel) visited origin p from s all d e =
      elim (cases_Bool (list_any (eqb p) visited)) [
        | inl here ↦ came_back bodies visited origin p from all here
        | inr apart ↦
            (let u = step p s in
            walk bodies table step fuel (p ∷ visited) origin u.0 (came_on bodies origin p u.0 from u.1) u.2
            (all_reach_on bodies visited p u.0 s.declared u.1 all)
            (IsDistinct-cons eqb p visited (none_same p visited apart) d) (omega (arith, e)))
      ]

nothing_twice : IsDistinct eqb []
unfolding IsDistinct
nothing_twice = tt

pub stuck_reaches : (bodies : Bodies) (table : List (Option Entry))
    → ((p : ℕ) → IsStuck bodies table p → StuckUse bodies table p) → (p : ℕ) → IsStuck bodies table p
    → ReachesCycle bodies p
stuck_reaches bodies table step p s =
    walk bodies table step (length bodies + 1) [] p p (inl refl) s (λ v h. absurd (false≢true h)) nothing_twice
    (omega arith)

-- where each place has an entry or is left, and each that is left uses one without an entry
pub left_are_stuck : (bodies : Bodies) (table : List (Option Entry)) (left : List ℕ) → ((p : ℕ) → AllDeclared bodies p)
    → AllLack bodies table left →
    ((p : ℕ) → p < length bodies → Accounts table left p) → (p : ℕ) → IsStuck bodies table p → StuckUse bodies table p
left_are_stuck bodies table left declared lack accounts p s = by_place (accounts p s.declared)
  where
    by_place : (has_entry table p ≡ true) ⊎ IsNumberIn p left → StuckUse bodies table p
    by_place (inl there) = absurd (false≢true (sym s.lacking ∙ there))
    by_place (inr here) =
        let l = lack p here in
        (l.place, l.used, record { declared = declared p l.place l.used; lacking = l.lacking })
