-- Why an attempt failed.
use Rattle.std.specs.Prelude.{◌≡◌, ℕ, ◌+◌, ◌<◌, ◌↔◌, Bool, List, IsTrue, Contains}
use Rattle.assertions.specs.Segments.{Seq}
use Rattle.assertions.specs.Attempts.{Antecedent, EndsAntecedent, IsBroken}
use Rattle.judging.specs.declared.cause.Cause.{Cause}
use Rattle.judging.specs.Tables.{marks}

-- Why the attempt that begins at c failed, where the ticks below n were seen: the ends of the
-- antecedent by then, and the first of them of which the obligation is broken by then.
pub record IsCause {B : Type 0} (value : B → ℕ → Bool) (r : Antecedent B) (s : Seq B) (n c : ℕ)
    (cause : Cause) : Type 0 where
  pub ends : (e : ℕ) → Contains cause.ends.items e ↔ EndsAntecedent value r n c e
  pub is_end : EndsAntecedent value r n c cause.broken
  pub is_broken : IsBroken value s n cause.broken
  pub first : (e : ℕ) → EndsAntecedent value r n c e → e < cause.broken → IsBroken value s n e → ⊥

-- a tick that lies at one of so many places from the first one on, with which the antecedent ends
abbrev pub IsEndTick : List Bool → ℕ → ℕ → ℕ → Type 0
IsEndTick ends first count tick =
    (place : ℕ) × (place < count) × IsTrue (marks ends (place + 1)) × (tick ≡ first + place)
