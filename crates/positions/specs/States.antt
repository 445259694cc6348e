-- A sequence as an automaton: its states, and what a tick does to them.
use Rattle.std.proofs.Common.{inl, inr}
use Rattle.std.specs.Prelude.{◌≡◌, ◌⊎◌, ℕ, zero, suc, ◌+◌, ◌<◌, ◌≤◌, max, Bool, IsTrue}
use Rattle.assertions.specs.Segments.{Matches, Chain}
use Rattle.positions.specs.Plans.{Plan, tick, skip, any, all, pair, under, loop, link}
use Rattle.positions.specs.Plans.{plan_sequence}

-- A state: which booleans are wanted at this tick.
abbrev pub PlanState : {B : Type 0} → Plan B → Type 0
PlanState (tick b) = Unit {0}
PlanState skip = ⊥
PlanState (any r s) = PlanState r ⊎ PlanState s
PlanState (all r s) = (PlanState r × PlanState s) ⊎ (PlanState r ⊎ PlanState s)
PlanState (pair r s) = PlanState r × PlanState s
PlanState (under b r) = PlanState r
PlanState (loop r least most) = (c : ℕ) × PlanState r × (c < most)
PlanState (link fuses follows r g s) = PlanState r ⊎ (PlanState g ⊎ PlanState s)

-- the empty segment matches
abbrev pub Nullable : {B : Type 0} → Plan B → Type 0
Nullable (tick b) = ⊥
Nullable skip = Unit {0}
Nullable (any r s) = Nullable r ⊎ Nullable s
Nullable (all r s) = Nullable r × Nullable s
Nullable (pair r s) = Nullable r × Nullable s
Nullable (under b r) = Nullable r
Nullable (loop r least most) = (least ≤ most) × ((least ≡ 0) ⊎ Nullable r)
Nullable (link fuses follows r g s) = IsTrue follows × Nullable r × Nullable g × Nullable s

-- the state is one to begin with
abbrev pub First : {B : Type 0} → (r : Plan B) → PlanState r → Type 0
First (tick b) t = Unit {0}
First skip t = ⊥
First (any r s) (inl p) = First r p
First (any r s) (inr q) = First s q
First (all r s) (inl t) = First r t.0 × First s t.1
First (all r s) (inr (inl p)) = First r p × Nullable s
First (all r s) (inr (inr q)) = Nullable r × First s q
First (pair r s) t = First r t.0 × First s t.1
First (under b r) p = First r p
First (loop r least most) t = (t.0 < most) × ((t.0 ≡ 0) ⊎ Nullable r) × First r t.1
First (link fuses follows r g s) (inl p) = First r p
First (link fuses follows r g s) (inr (inl q)) = IsTrue follows × Nullable r × First g q
First (link fuses follows r g s) (inr (inr t)) =
    IsTrue follows × Nullable r × Nullable g × First s t

-- at tick i the state ends a match
abbrev pub Ends : {B : Type 0} → (B → ℕ → Bool) → (r : Plan B) → PlanState r → ℕ → Type 0
Ends holds (tick b) t i = IsTrue (holds b i)
Ends holds skip t i = ⊥
Ends holds (any r s) (inl p) i = Ends holds r p i
Ends holds (any r s) (inr q) i = Ends holds s q i
Ends holds (all r s) (inl t) i = Ends holds r t.0 i × Ends holds s t.1 i
Ends holds (all r s) (inr (inl p)) i = Ends holds r p i
Ends holds (all r s) (inr (inr q)) i = Ends holds s q i
Ends holds (pair r s) t i = Ends holds r t.0 i × Ends holds s t.1 i
Ends holds (under b r) p i = Ends holds r p i × IsTrue (holds b i)
Ends holds (loop r least most) t i =
    Ends holds r t.1 i × (t.0 < most) × (least ≤ most) × ((least ≤ t.0 + 1) ⊎ Nullable r)
Ends holds (link fuses follows r g s) (inl p) i =
    Ends holds r p i
    × ((IsTrue follows × Nullable g × Nullable s)
    ⊎ (IsTrue fuses × (q : PlanState s) × First s q × Ends holds s q i))
Ends holds (link fuses follows r g s) (inr (inl q)) i = Ends holds g q i × Nullable s
Ends holds (link fuses follows r g s) (inr (inr t)) i = Ends holds s t i

-- at tick i the state goes on to another
abbrev pub StepsTo : {B : Type 0} → (B → ℕ → Bool) → (r : Plan B) → PlanState r → ℕ → PlanState r
    → Type 0
StepsTo holds (tick b) t i u = ⊥
StepsTo holds skip t i u = ⊥
StepsTo holds (any r s) (inl p) i (inl p') = StepsTo holds r p i p'
StepsTo holds (any r s) (inl p) i (inr q') = ⊥
StepsTo holds (any r s) (inr q) i (inl p') = ⊥
StepsTo holds (any r s) (inr q) i (inr q') = StepsTo holds s q i q'
StepsTo holds (all r s) (inl t) i (inl u) = StepsTo holds r t.0 i u.0 × StepsTo holds s t.1 i u.1
StepsTo holds (all r s) (inl t) i (inr (inl p')) = StepsTo holds r t.0 i p' × Ends holds s t.1 i
StepsTo holds (all r s) (inl t) i (inr (inr q')) = Ends holds r t.0 i × StepsTo holds s t.1 i q'
StepsTo holds (all r s) (inr (inl p)) i (inl u) = ⊥
StepsTo holds (all r s) (inr (inl p)) i (inr (inl p')) = StepsTo holds r p i p'
StepsTo holds (all r s) (inr (inl p)) i (inr (inr q')) = ⊥
StepsTo holds (all r s) (inr (inr q)) i (inl u) = ⊥
StepsTo holds (all r s) (inr (inr q)) i (inr (inl p')) = ⊥
StepsTo holds (all r s) (inr (inr q)) i (inr (inr q')) = StepsTo holds s q i q'
StepsTo holds (pair r s) t i u = StepsTo holds r t.0 i u.0 × StepsTo holds s t.1 i u.1
StepsTo holds (under b r) p i p' = StepsTo holds r p i p' × IsTrue (holds b i)
StepsTo holds (loop r least most) t i u =
    ((t.0 ≡ u.0) × StepsTo holds r t.1 i u.1)
    ⊎ (Ends holds r t.1 i × (t.0 < u.0) × (u.0 < most) × ((u.0 ≡ t.0 + 1) ⊎ Nullable r)
    × First r u.1)
StepsTo holds (link fuses follows r g s) (inl p) i (inl p') = StepsTo holds r p i p'
StepsTo holds (link fuses follows r g s) (inl p) i (inr (inl q')) =
    Ends holds r p i × IsTrue follows × First g q'
StepsTo holds (link fuses follows r g s) (inl p) i (inr (inr t')) =
    Ends holds r p i
    × ((IsTrue follows × Nullable g × First s t')
    ⊎ (IsTrue fuses × (q : PlanState s) × First s q × StepsTo holds s q i t'))
StepsTo holds (link fuses follows r g s) (inr (inl q)) i (inl p') = ⊥
StepsTo holds (link fuses follows r g s) (inr (inl q)) i (inr (inl q')) = StepsTo holds g q i q'
StepsTo holds (link fuses follows r g s) (inr (inl q)) i (inr (inr t')) =
    Ends holds g q i × First s t'
StepsTo holds (link fuses follows r g s) (inr (inr t)) i (inl p') = ⊥
StepsTo holds (link fuses follows r g s) (inr (inr t)) i (inr (inl q')) = ⊥
StepsTo holds (link fuses follows r g s) (inr (inr t)) i (inr (inr t')) = StepsTo holds s t i t'

-- from the state at tick i a match ends at j
abbrev pub Left : {B : Type 0} → (B → ℕ → Bool) → (r : Plan B) → PlanState r → ℕ → ℕ → Type 0
Left holds (tick b) t i j = (j ≡ i + 1) × IsTrue (holds b i)
Left holds skip t i j = ⊥
Left holds (any r s) (inl p) i j = Left holds r p i j
Left holds (any r s) (inr q) i j = Left holds s q i j
Left holds (all r s) (inl t) i j =
    (k : ℕ) × (l : ℕ) × Left holds r t.0 i k × Left holds s t.1 i l × (j ≡ max k l)
Left holds (all r s) (inr (inl p)) i j = Left holds r p i j
Left holds (all r s) (inr (inr q)) i j = Left holds s q i j
Left holds (pair r s) t i j = Left holds r t.0 i j × Left holds s t.1 i j
Left holds (under b r) p i j = Left holds r p i j × ((k : ℕ) → i ≤ k → k < j → IsTrue (holds b k))
Left holds (loop r least most) t i j =
    (m : ℕ) × Left holds r t.1 i m
    × ((k : ℕ) × (least ≤ t.0 + 1 + k) × (t.0 + 1 + k ≤ most)
    × Chain (Matches holds (plan_sequence r)) k m j)
Left holds (link fuses follows r g s) (inl p) i j =
    (IsTrue fuses × (e : ℕ) × (i ≤ e) × (e < j) × Left holds r p i (e + 1)
    × Matches holds (plan_sequence s) e j)
    ⊎ (IsTrue follows × (m : ℕ) × (k : ℕ) × Left holds r p i m × Matches holds (plan_sequence g) m k
    × Matches holds (plan_sequence s) k j)
Left holds (link fuses follows r g s) (inr (inl q)) i j =
    (m : ℕ) × Left holds g q i m × Matches holds (plan_sequence s) m j
Left holds (link fuses follows r g s) (inr (inr t)) i j = Left holds s t i j

-- the state is one after n ticks from c
abbrev pub At : {B : Type 0} → (B → ℕ → Bool) → (r : Plan B) → ℕ → ℕ → PlanState r → Type 0
At holds r c zero t = First r t
At holds r c (suc n) t = (before : PlanState r) × At holds r c n before
    × StepsTo holds r before (c + n) t
