-- What a property has come to once the ticks below n were seen (IEEE 1800-2017, F.5.3).
use Rattle.std.specs.Prelude.{◌⊎◌, ℕ, ◌+◌, ◌<◌, ◌≤◌, Bool, ◌↔◌}
use Rattle.import_properties.specs.declared.condition.Condition.{Condition}
use Rattle.import_properties.specs.Conditions.{value_of, unsat}
use Rattle.import_properties.specs.Properties.{Form, sequence, negated, either, both, implied}
use Rattle.import_properties.specs.Properties.{next, until}
use Rattle.assertions.specs.Segments.{Seq, sat, Matches}
use Rattle.assertions.specs.Attempts.{every, IsDecided}
use Rattle.assertions.specs.declared.decision.Decision.TheVariants.{Held, Vacuously, Failed}

-- It has failed: were every boolean true from now on, it still wouldn't be satisfied. It is good:
-- were every boolean false from now on, it would be satisfied.
pub data Outcome : Type 0 where
  failed : Outcome
  good : Outcome

-- Whether the property has come to an outcome at the tick c, where the ticks below n were seen and
-- value says which boolean is true at which tick: a clause for each form (F.5.3). A negation
-- exchanges the two letters that may follow, and with them the two outcomes.
abbrev pub ComesTo : {B : Type 0} → (B → ℕ → Bool) → ℕ → Form B → Outcome → ℕ → Type 0
ComesTo value n (sequence s) failed c = (j : ℕ) → c < j → Matches (sat value n) s c j → ⊥
ComesTo value n (sequence s) good c = (j : ℕ) × (c < j) × Matches (unsat value n) s c j
ComesTo value n (negated p) failed c = ComesTo value n p good c
ComesTo value n (negated p) good c = ComesTo value n p failed c
ComesTo value n (either p q) failed c = ComesTo value n p failed c × ComesTo value n q failed c
ComesTo value n (either p q) good c = ComesTo value n p good c ⊎ ComesTo value n q good c
ComesTo value n (both p q) failed c = ComesTo value n p failed c ⊎ ComesTo value n q failed c
ComesTo value n (both p q) good c = ComesTo value n p good c × ComesTo value n q good c
ComesTo value n (implied r p) failed c =
    (e : ℕ) × (c ≤ e) × Matches (unsat value n) r c (e + 1) × ComesTo value n p failed e
ComesTo value n (implied r p) good c =
    (e : ℕ) → c ≤ e → Matches (sat value n) r c (e + 1) → ComesTo value n p good e
ComesTo value n (next p) failed c = ComesTo value n p failed (c + 1)
ComesTo value n (next p) good c = ComesTo value n p good (c + 1)
ComesTo value n (until p q) failed c =
    (e : ℕ) × (c ≤ e) × ComesTo value n p failed e
    × ((k : ℕ) → c ≤ k → k ≤ e → ComesTo value n q failed k)
ComesTo value n (until p q) good c =
    ((e : ℕ) × (c ≤ e) × ComesTo value n q good e
    × ((k : ℕ) → c ≤ k → k < e → ComesTo value n p good k))
    ⊎ ((k : ℕ) → c ≤ k → ComesTo value n p good k)

-- The two come to the same, whatever the leaves are, after each number of ticks.
abbrev pub ComesToSame : Form Condition → Form Condition → Type 0
ComesToSame p q =
    (leaves : ℕ → ℕ → Bool) (n : ℕ) (o : Outcome) (c : ℕ)
    → ComesTo (value_of leaves) n p o c ↔ ComesTo (value_of leaves) n q o c

-- The same, so long as no more than so many ticks were seen from where they begin.
abbrev pub ComesToSameWithin : ℕ → Form Condition → Form Condition → Type 0
ComesToSameWithin bound p q =
    (leaves : ℕ → ℕ → Bool) (n : ℕ) (o : Outcome) (c : ℕ) → n ≤ c + bound
    → ComesTo (value_of leaves) n p o c ↔ ComesTo (value_of leaves) n q o c

-- What an attempt of `r |-> s` in the profile has come to: it has failed; or it holds, vacuously or
-- not (16.14.8).
abbrev pub IsDecidedSo :
    {B : Type 0} → (B → ℕ → Bool) → Seq B → Seq B → ℕ → Outcome → ℕ → Type 0
IsDecidedSo value r s n failed c = IsDecided value (every r) s n c Failed
IsDecidedSo value r s n good c =
    IsDecided value (every r) s n c Held ⊎ IsDecided value (every r) s n c Vacuously
