-- How what stands between the clocks of a monitor stands for the meaning of its assertion.
use Rattle.std.specs.Prelude.{ℕ, zero, suc, ◌+◌, ◌-◌, Bool, true, false, not, ◌&&◌, ◌||◌, ◌==◌}
use Rattle.std.specs.Prelude.{if◌then◌else◌, List, [], ◌∷◌}
use Rattle.signals.specs.declared.verdict.Verdict.{Verdict}
use Rattle.signals.specs.declared.verdict.Verdict.TheVariants.{Holds, Vacuous, Fails, Disabled}
use Rattle.signals.specs.declared.verdict.Verdict.TheVariants.{Open}
use Rattle.signals.specs.declared.verdict.Decided.{Decided}
use Rattle.assertions.specs.Quantifiers.{some_in, each_in}
use Rattle.machine_checked.specs.Clocks.{Attempt, Obligation, Standing}
use Rattle.machine_sections.specs.Automata.{Automaton, positions_at, accepts, accepted_at}
use Rattle.machine_sections.specs.Monitors.{Monitor}

-- the things of those ticks that pass, of so many from the first one on
abbrev pub select_ticks : {A : Type 0} → (ℕ → Bool) → (ℕ → A) → ℕ → ℕ → List A
select_ticks passes thing first zero = []
select_ticks passes thing first (suc count) =
    if passes first
    then thing first ∷ select_ticks passes thing (first + 1) count
    else select_ticks passes thing (first + 1) count

abbrev pub is_open : Verdict → Bool
is_open Open = true
is_open (Holds t) = false
is_open (Vacuous t) = false
is_open (Fails t) = false
is_open (Disabled t) = false

-- the verdict falls at this clock
abbrev pub falls_at : ℕ → Verdict → Bool
falls_at n Open = false
falls_at n (Holds t) = t == n
falls_at n (Vacuous t) = t == n
falls_at n (Fails t) = t == n
falls_at n (Disabled t) = t == n

-- Below, verdict n c is the verdict over the first n ticks on the attempt that begins at c.

-- the attempt that began at c, before clock n
abbrev pub attempt_at : Monitor → ℕ → ℕ → Attempt
attempt_at m n c =
    record {
      start = c;
      positions = positions_at m.antecedent c (n - c);
      awaited = accepted_at m.antecedent c (n - c);
    }

-- an attempt that was open before tick e accepted there
abbrev pub awaits_at : Monitor → (ℕ → ℕ → Verdict) → ℕ → Bool
awaits_at m verdict e =
    some_in 0 (e + 1) (λ c. is_open (verdict e c) && accepts m.antecedent c (e - c))

-- so many ticks from e on it was neither kept nor left without a position
abbrev pub is_unsettled : Automaton → ℕ → ℕ → Bool
is_unsettled a e zero = true
is_unsettled a e (suc k) = is_unsettled a e k && not
    (accepts a e k || positions_at a e (suc k) == 0)

-- the obligation of tick e is live before clock n
abbrev pub is_owed : Monitor → (ℕ → ℕ → Verdict) → ℕ → ℕ → Bool
is_owed m verdict n e =
    (awaits_at m verdict e && each_in e n (λ k. not (m.off k)))
    && is_unsettled m.consequent e (n - e)

abbrev pub obligation_at : Monitor → ℕ → ℕ → Obligation
obligation_at m n e = record { tick = e; positions = positions_at m.consequent e (n - e) }

-- What stands before clock n: the attempts that are open, and the obligations that one of them made
-- and that are still unsettled.
abbrev pub standing_at : Monitor → (ℕ → ℕ → Verdict) → ℕ → Standing
standing_at m verdict n =
    record {
      now = n;
      attempts = select_ticks (λ c. is_open (verdict n c)) (attempt_at m n) 0 n;
      obligations = select_ticks (is_owed m verdict n) (obligation_at m n) 0 n;
    }

-- the verdicts that fall at clock n, by start
abbrev pub falling : (ℕ → ℕ → Verdict) → ℕ → List Decided
falling verdict n =
    select_ticks (λ c. falls_at n (verdict (n + 1) c))
    (λ c. record { start = c; verdict = verdict (n + 1) c }) 0 (n + 1)
