-- A clock of a monitor without budget, pools and traps: what a clock of the checked machine comes
-- to after its sample code.
use Rattle.std.specs.Prelude.{ℕ, zero, suc, ◌+◌, Bool, true, false, ◌||◌, List, [], ◌∷◌, ◌++◌}
use Rattle.std.specs.Prelude.{unwrap_or}
use Rattle.signals.specs.declared.verdict.Decided.{Decided}
use Rattle.signals.specs.declared.verdict.Verdict.TheVariants.{Disabled}
use Rattle.bytecode_programs.specs.Values.{ProgramData}
use Rattle.machine_checked.specs.Clocks.{Attempt, Obligation, Standing, Settled, none_standing}
use Rattle.machine_checked.specs.Clocks.{visited, Fate, staying, Settlement, settle, disabling}
use Rattle.machine_sections.specs.Automata.{Automaton}
use Rattle.machine_sections.specs.Effects.{automaton_of}

-- A monitor over the ticks of a run.
pub record Monitor : Type 0 where
  pub antecedent : Automaton
  pub consequent : Automaton
  -- at which ticks the disabling expression is true
  pub off : ℕ → Bool

-- a program on the atoms of each tick
abbrev pub program_monitor : ProgramData → (ℕ → List Bool) → Monitor
program_monitor p atoms =
    record {
      antecedent = automaton_of p.antecedent atoms;
      consequent = automaton_of p.consequent atoms;
      off = λ k. unwrap_or (disabling p.header.disable (atoms k)) false;
    }

-- the attempts after their visits
abbrev pub all_visited : Automaton → ℕ → List Attempt → List Attempt
all_visited a now [] = []
all_visited a now (x ∷ xs) = visited now x (a.step now x.positions) ∷ all_visited a now xs

-- whether any accepted
abbrev pub some_accepts : Automaton → ℕ → List Attempt → Bool
some_accepts a now [] = false
some_accepts a now (x ∷ xs) = (a.step now x.positions).accepted || some_accepts a now xs

-- the obligations, with the new one where there is one
abbrev pub with_opened : Bool → Automaton → ℕ → List Obligation → List Obligation
with_opened true a now os = os ++ record { tick = now; positions = a.start } ∷ []
with_opened false a now os = os

abbrev pub fate_in : Automaton → ℕ → Obligation → Fate
fate_in a now o =
    record {
      tick = o.tick;
      positions = (a.step now o.positions).entered;
      kept = (a.step now o.positions).accepted;
    }

-- what becomes of the obligations
abbrev pub fates_in : Automaton → ℕ → List Obligation → List Fate
fates_in a now [] = []
fates_in a now (o ∷ os) = fate_in a now o ∷ fates_in a now os

abbrev pub all_settled : ℕ → List Fate → List Attempt → Settlement
all_settled now fates [] = record { live = []; decided = [] }
all_settled now fates (x ∷ xs) = settle now fates x (all_settled now fates xs)

abbrev pub all_disabled : ℕ → List Attempt → List Decided
all_disabled now [] = []
all_disabled now (x ∷ xs) =
    record { start = x.start; verdict = Disabled now } ∷ all_disabled now xs

-- the clock after the visits
abbrev pub settled_with : ℕ → List Attempt → List Fate → Settled
settled_with now live fates =
    record {
      state = record {
        now = now + 1;
        attempts = (all_settled now fates live).live;
        obligations = staying fates;
      };
      decided = (all_settled now fates live).decided;
    }

-- the clock with its attempt open, disabled or not
abbrev pub clock_opened : Monitor → ℕ → List Attempt → List Obligation → Bool → Settled
clock_opened m now live os true =
    record {
      state = record { now = now + 1; attempts = []; obligations = [] };
      decided = all_disabled now live;
    }
clock_opened m now live os false =
    settled_with now (all_visited m.antecedent now live)
    (fates_in m.consequent now
    (with_opened (some_accepts m.antecedent now live) m.consequent now os))

abbrev pub fresh_attempt : Monitor → ℕ → Attempt
fresh_attempt m now = record { start = now; positions = m.antecedent.start; awaited = 0 }

unfoldable pub monitor_clock : Monitor → Standing → Settled
monitor_clock m s =
    clock_opened m s.now (s.attempts ++ fresh_attempt m s.now ∷ []) s.obligations (m.off s.now)

-- what stands after so many clocks
abbrev pub standing_after : Monitor → ℕ → Standing
standing_after m zero = none_standing
standing_after m (suc n) = (monitor_clock m (standing_after m n)).state

-- what the clock n decides
abbrev pub decided_by_clock : Monitor → ℕ → List Decided
decided_by_clock m n = (monitor_clock m (standing_after m n)).decided
