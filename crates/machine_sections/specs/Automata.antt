-- A section as an automaton over the ticks of a run, and what it has to do with a sequence.
use Rattle.std.specs.Prelude.{◌≡◌, ◌↔◌, ℕ, zero, suc, ◌+◌, ◌^◌, Bool, IsTrue, bit_or}
use Rattle.std.specs.Prelude.{if◌then◌else◌}
use Rattle.machine_checked.specs.Blocks.{Visit}
use Rattle.assertions.specs.Attempts.{Antecedent, Leads, IsAntecedentOver}

-- A section on the rows of a run: its first positions, and what a set of positions does at a tick.
-- A set of positions is a number whose bit p says whether p is in it.
pub record Automaton : Type 0 where
  pub start : ℕ
  pub step : ℕ → ℕ → Visit

-- the positions after so many ticks from c
abbrev pub positions_at : Automaton → ℕ → ℕ → ℕ
positions_at a c zero = a.start
positions_at a c (suc k) = (a.step (c + k) (positions_at a c k)).entered

-- it accepts at the tick so many ticks after c
abbrev pub accepts : Automaton → ℕ → ℕ → Bool
accepts a c k = (a.step (c + k) (positions_at a c k)).accepted

-- the ticks at which it accepted, of so many from c: bit j stands for tick c + j
abbrev pub accepted_at : Automaton → ℕ → ℕ → ℕ
accepted_at a c zero = 0
accepted_at a c (suc k) =
    if accepts a c k then bit_or (accepted_at a c k) (2 ^ k) else accepted_at a c k

-- The automaton follows each match of a sequence, or its first ones: begun at any tick, it accepts
-- at a tick exactly where such a match ends with it, and has no position left exactly where no
-- longer one is possible.
pub record AutomatonFollows {B : Type 0} (value : B → ℕ → Bool) (r : Antecedent B)
    (a : Automaton) : Type 0
  where
    pub ends : (c k : ℕ) → IsTrue (accepts a c k) ↔ Leads value r c (c + k + 1)
    pub over : (c k : ℕ) → (positions_at a c k ≡ 0) ↔ IsAntecedentOver value r (c + k) c
