-- What can be written out doesn't reach itself.
use Rattle.std.proofs.Common.{◌≡◌, inl, inr, ℕ, zero, suc, ◌+◌, ◌<◌, List, Option, Some, None, slice_get, sym, subst}
use Rattle.std.proofs.Common.{arith}
use Rattle.std.specs.Prelude.{option_map, option_and_then}
use Rattle.assertions.specs.Written.{Written}
use Rattle.assertions.specs.Written as written
use Rattle.types.specs.Drafts.{Draft, boolean, name, delay, lead, repeat, or, and, intersect, throughout}
use Rattle.types.specs.Drafts.{IsNumberIn}
use Rattle.types.specs.Drafts.{uses, uses_of, both_there, spelling_of, named_within, reaches_by, IsCyclic}
use Rattle.types.proofs.InLaws.{in_either}

-- there is something
abbrev pub IsThere : {A : Type 0} → Option A → Type 0
IsThere None = ⊥
IsThere (Some x) = Unit {0}

both_parts : {A C : Type 0} (f : A → A → C) (a b : Option A) → IsThere (both_there f a b) → IsThere a × IsThere b
both_parts f None b h = elim h [ ]
both_parts f (Some x) None h = elim h [ ]
both_parts f (Some x) (Some y) h = (tt, tt)

map_part : {A C : Type 0} (f : A → C) (a : Option A) → IsThere (option_map f a) → IsThere a
map_part f None h = h
map_part f (Some x) h = tt

-- where a sequence is written out, each name that it uses is
pub named_there : {B : Type 0} (f : ℕ → Option (Written B)) (d : Draft B) (q : ℕ) → IsThere (spelling_of f d)
    → IsNumberIn q (uses d) → IsThere (f q)
named_there f (boolean b) q h i = elim i [ ]
named_there f (name p) q h i = elim i [ inl e ↦ subst (λ (x : ℕ). IsThere (f x)) (sym e) h | inr n ↦ elim n [ ] ]
named_there f (delay r least extra s) q h i =
    let parts = both_parts (λ v w. written.delay v least (least + extra) w) (spelling_of f r) (spelling_of f s) h in
    elim (in_either q (uses r) (uses s) i) [ inl x ↦ named_there f r q parts.0 x | inr y ↦ named_there f s q parts.1 y ]
named_there f (lead least extra s) q h i =
    named_there f s q (map_part (written.lead least (least + extra)) (spelling_of f s) h) i
named_there f (repeat r least extra) q h i =
    named_there f r q (map_part (λ v. written.repeat v least (least + extra)) (spelling_of f r) h) i
named_there f (or r s) q h i =
    let parts = both_parts written.or (spelling_of f r) (spelling_of f s) h in
    elim (in_either q (uses r) (uses s) i) [ inl x ↦ named_there f r q parts.0 x | inr y ↦ named_there f s q parts.1 y ]
named_there f (and r s) q h i =
    let parts = both_parts written.and (spelling_of f r) (spelling_of f s) h in
    elim (in_either q (uses r) (uses s) i) [ inl x ↦ named_there f r q parts.0 x | inr y ↦ named_there f s q parts.1 y ]
named_there f (intersect r s) q h i =
    let parts = both_parts written.intersect (spelling_of f r) (spelling_of f s) h in
    elim (in_either q (uses r) (uses s) i) [ inl x ↦ named_there f r q parts.0 x | inr y ↦ named_there f s q parts.1 y ]
named_there f (throughout b r) q h i = named_there f r q (map_part (written.throughout b) (spelling_of f r) h) i

use_there : {B : Type 0} (f : ℕ → Option (Written B)) (o : Option (Draft B)) (q : ℕ)
    → IsThere (option_and_then (spelling_of f) o) → IsNumberIn q (uses_of o) → IsThere (f q)
use_there f None q h i = elim h [ ]
use_there f (Some d) q h i = named_there f d q h i

-- a name that is reached is written out with less nesting
pub reach_down : {B : Type 0} (bodies : List (Draft B)) (n more p q : ℕ) → IsThere (named_within bodies n p)
    → reaches_by bodies more p q → (m : ℕ) × (m < n) × IsThere (named_within bodies m q)
reach_down bodies zero more p q h r = elim h [ ]
reach_down bodies (suc n) zero p q h r = (n, omega arith, use_there (named_within bodies n) (slice_get bodies p) q h r)
reach_down bodies (suc n) (suc more) p q h r =
    let d = reach_down bodies n more r.0 q (use_there (named_within bodies n) (slice_get bodies p) r.0 h r.1) r.2 in
    (d.0, omega (arith, d.1), d.2)

acyclic_below : {B : Type 0} (bodies : List (Draft B)) (fuel n p : ℕ) → n < fuel → IsThere (named_within bodies n p)
    → IsCyclic bodies p → ⊥
acyclic_below bodies zero n p lt h c = omega (arith, lt)
acyclic_below bodies (suc fuel) n p lt h c =
    let d = reach_down bodies n c.0 p p h c.1 in
    acyclic_below bodies fuel d.0 p (omega (arith, lt, d.1)) d.2 c

-- A name that can be written out doesn't reach itself.
pub named_acyclic : {B : Type 0} (bodies : List (Draft B)) (n p : ℕ) (w : Written B) → named_within bodies n p ≡ Some w
    → IsCyclic bodies p → ⊥
named_acyclic bodies n p w e c =
    acyclic_below bodies (n + 1) n p (omega arith) (subst (λ (o : Option (Written _)). IsThere o) (sym e) tt) c
