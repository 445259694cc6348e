-- What a side of an assertion in the profile must be.
use Rattle.std.specs.Prelude.{◌≡◌, ◌≤◌, ℕ, Bool, true, false, ◌&&◌, ◌||◌, nat_le}
use Rattle.import_properties.specs.declared.condition.Condition.{Condition}
use Rattle.import_properties.specs.declared.condition.Condition.TheVariants.{One}
use Rattle.import_properties.specs.Properties.{Form, sequence}
use Rattle.import_properties.specs.Outcomes.{ComesToSameWithin}
use Rattle.assertions.specs.Written.{Written, boolean, delay, lead, repeat, or, and, intersect}
use Rattle.assertions.specs.Written.{throughout, kernel, weight, IsOrdered}
use Rattle.assertions.specs.Emptiness.{admits_empty}

-- It can be an antecedent: the least of each range comes first, and it weighs at most 127.
pub record IsAntecedent (w : Written Condition) : Type 0 where
  pub ordered : IsOrdered w
  pub light : weight w ≤ 127

-- It can be a consequent: it admits no empty match, too (16.12.22).
pub record IsConsequent (w : Written Condition) : Type 0 where
  pub ordered : IsOrdered w
  pub light : weight w ≤ 127
  pub some : admits_empty w ≡ false

-- A sequence that can be a consequent says what a property does, so long as no more than so many
-- ticks are seen from where it begins.
pub record Says (bound : ℕ) (p : Form Condition) (w : Written Condition) : Type 0 where
  pub fit : IsConsequent w
  pub same : ComesToSameWithin bound p (sequence (kernel One w))

-- By its form it has a match of a tick or more, were every boolean true. Of `intersect` the form
-- alone doesn't tell.
abbrev pub can_match : {B : Type 0} → Written B → Bool
can_match (boolean b) = true
can_match (delay r least most s) = can_match r && can_match s
can_match (lead least most s) = can_match s
can_match (repeat r least most) = nat_le 1 most && can_match r
can_match (or r s) = can_match r || can_match s
can_match (and r s) = can_match r && can_match s
can_match (intersect r s) = false
can_match (throughout b r) = can_match r
