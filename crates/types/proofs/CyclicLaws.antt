-- What marks say where a sweep changes nothing.
use Rattle.std.proofs.Common.{◌≡◌, ◌⊎◌, inl, inr, ℕ, zero, suc, ◌<◌, ◌≤◌, ◌==◌, List, Bool, true, length, Option, refl}
use Rattle.std.proofs.Common.{sym, subst, ◌∙◌}
use Rattle.std.proofs.lemmas.Bool.{or_left, or_right, eq-eqb, cases_lt, false≢true}
use Rattle.std.proofs.lemmas.Option.{slice_get_past}
use Rattle.types.specs.Drafts.{Draft, IsNumberIn, uses_of, uses_at, reaches_by, SomeCyclic}
use Rattle.types.specs.Marks.{mark_at, leads_to_goal}
use Rattle.types.specs.Sweeps.{Covers, AreQuiet}
use Rattle.types.specs.Cycles.{ReachesCycle}
use Rattle.types.proofs.SweepLaws.{no_use_passes}

-- what uses a name is declared
pub declared_by_use : {B : Type 0} (bodies : List (Draft B)) (p q : ℕ) → IsNumberIn q (uses_at bodies p)
    → p < length bodies
declared_by_use {B} bodies p q i = by_place (cases_lt p (length bodies))
  where
    by_place : (p < length bodies) ⊎ (length bodies ≤ p) → p < length bodies
    by_place (inl h) = h
    by_place (inr h) = elim
        (subst (λ (o : Option (Draft B)). IsNumberIn q (uses_of o)) (slice_get_past bodies p h) i) [ ]

pub declared_by_reach : {B : Type 0} (bodies : List (Draft B)) (more p q : ℕ) → reaches_by bodies more p q
    → p < length bodies
declared_by_reach bodies zero p q r = declared_by_use bodies p q r
declared_by_reach bodies (suc more) p q r = declared_by_use bodies p r.0 r.1

-- where one reaches a cycle, one of the declarations is cyclic
pub some_cyclic : {B : Type 0} (bodies : List (Draft B)) (p : ℕ) → ReachesCycle bodies p → SomeCyclic bodies
some_cyclic bodies p r = (r.place, declared_by_reach bodies r.cyclic.0 r.place r.place r.cyclic.1, r.cyclic)

not_quiet : {B : Type 0} (bodies : List (Draft B)) (goal : ℕ) (marks : List Bool) (left : List ℕ) (p q : ℕ) →
    AreQuiet bodies goal marks left → IsNumberIn q (uses_at bodies p) → leads_to_goal marks goal q ≡ true
    → IsNumberIn p left
    → ⊥
not_quiet bodies goal marks left p q quiet i l here =
    false≢true (sym (no_use_passes (leads_to_goal marks goal) (uses_at bodies p) q (quiet p here) i) ∙ l)

mark_of : {B : Type 0} (bodies : List (Draft B)) (goal : ℕ) (marks : List Bool) (left : List ℕ) (p q : ℕ) →
    AreQuiet bodies goal marks left → Covers marks left p → IsNumberIn q (uses_at bodies p) → leads_to_goal marks goal q
    ≡ true
    → mark_at marks p ≡ true
mark_of bodies goal marks left p q quiet (inl m) i l = m
mark_of bodies goal marks left p q quiet (inr here) i l = elim (not_quiet bodies goal marks left p q quiet i l here) [ ]

-- where nothing that is left leads on, all that reaches the goal is marked
pub all_marked : {B : Type 0} (bodies : List (Draft B)) (goal : ℕ) (marks : List Bool) (left : List ℕ) →
    AreQuiet bodies goal marks left → ((p : ℕ) → p < length bodies → Covers marks left p) → (more p : ℕ)
    → reaches_by bodies more p goal → mark_at marks p ≡ true
all_marked bodies goal marks left quiet covers zero p r =
    mark_of bodies goal marks left p goal quiet (covers p (declared_by_use bodies p goal r)) r
    (or_left (goal == goal) (mark_at marks goal) (eq-eqb goal goal refl))
all_marked bodies goal marks left quiet covers (suc more) p r =
    mark_of bodies goal marks left p r.0 quiet (covers p (declared_by_use bodies p r.0 r.1)) r.1
    (or_right (r.0 == goal) (mark_at marks r.0) (all_marked bodies goal marks left quiet covers more r.0 r.2))
