-- A clock of the checked machine over attempts that list the awaited ticks that are open, and tell
-- whether they ever accepted.
use Rattle.std.specs.Prelude.{◌≡◌, ℕ, ◌+◌, ◌==◌, Bool, true, false, not, ◌&&◌, ◌||◌}
use Rattle.std.specs.Prelude.{if◌then◌else◌, List, [], ◌∷◌, ◌++◌, Option, Some}
use Rattle.std.specs.Prelude.{None, map, filter, take}
use Rattle.std.specs.List.{list_any}
use Rattle.signals.specs.declared.verdict.Verdict.{Verdict}
use Rattle.signals.specs.declared.verdict.Decided.{Decided}
use Rattle.signals.specs.declared.verdict.Verdict.TheVariants.{Holds, Vacuous, Fails, Disabled}
use Rattle.bytecode_programs.specs.Values.{SectionData, ProgramData}
use Rattle.bytecode_programs.specs.Instructions.{frame_of}
use Rattle.machine_checked.specs.Outcomes.{Ran, done, trapped, bad_operand, and_then, costs_one}
use Rattle.machine_checked.specs.Blocks.{Visit, visit}
use Rattle.machine_checked.specs.Samples.{nothing_made, run_sample}
use Rattle.machine_checked.specs.Clocks.{Attempt, Obligation, Fate, Standing, opened}
use Rattle.machine_checked.specs.Clocks.{visit_obligations, is_broken, staying, disabling}
use Rattle.machine_checked.specs.Machine.{State, Outcome, opening, sample_of, stored}
use Rattle.machine_checked.specs.Machine.{clock, clocks}
use Rattle.machine_checked.specs.Awaited.{awaited_ticks, is_some}

-- A live attempt. It awaits the obligations of these ticks, which are open.
pub record OpenAttempt : Type 0 where
  pub start : ℕ
  pub positions : ℕ
  pub awaited : List ℕ
  pub accepted : Bool

-- what is live between clocks
pub record OpenStanding : Type 0 where
  pub now : ℕ
  pub attempts : List OpenAttempt
  pub obligations : List Obligation

-- it awaits the obligation of the tick
abbrev pub is_awaited : OpenAttempt → ℕ → Bool
is_awaited a t = list_any (λ u. u == t) a.awaited

-- The attempts after their visits, and whether any accepted; one that did awaits the tick now.
pub record OpenVisits : Type 0 where
  pub attempts : List OpenAttempt
  pub accepted : Bool

abbrev pub visited_open : ℕ → OpenAttempt → Visit → OpenAttempt
visited_open now a v = record {
  start = a.start;
  positions = v.entered;
  awaited = if v.accepted then a.awaited ++ now ∷ [] else a.awaited;
  accepted = a.accepted || v.accepted;
}

abbrev pub visit_each : SectionData → List Bool → ℕ → List OpenAttempt → ℕ → Ran OpenVisits
visit_each s atoms now [] left = done (record { attempts = []; accepted = false }) left
visit_each s atoms now (a ∷ others) left =
    costs_one left (λ left.
    and_then (visit s atoms a.positions left) (λ v left.
    and_then (visit_each s atoms now others left) (λ vs left.
    done
    (record {
      attempts = visited_open now a v ∷ vs.attempts;
      accepted = v.accepted || vs.accepted;
    })
    left)))

-- an obligation that it awaits is broken
abbrev pub is_open_broken : OpenAttempt → List Fate → Bool
is_open_broken a fates = list_any (λ f. is_broken f && is_awaited a f.tick) fates

-- it awaits those of its ticks whose obligations stay
abbrev pub with_open : List Fate → OpenAttempt → OpenAttempt
with_open fates a = record {
  start = a.start;
  positions = a.positions;
  awaited = filter (is_awaited a) (map (λ o. o.tick) (staying fates));
  accepted = a.accepted;
}

-- The attempts that stay live and those that are decided.
pub record OpenSettlement : Type 0 where
  pub live : List OpenAttempt
  pub decided : List Decided

abbrev pub stays_open : OpenAttempt → OpenSettlement → OpenSettlement
stays_open a r = record { live = a ∷ r.live; decided = r.decided }

abbrev pub ends_now : ℕ → Verdict → OpenSettlement → OpenSettlement
ends_now start verdict r =
    record {
      live = r.live;
      decided = record { start = start; verdict = verdict } ∷ r.decided;
    }

-- It fails where an obligation that it awaits is broken; else it stays while it has a position or
-- awaits an open one; else it holds where it ever accepted, and is vacuous where not.
abbrev pub settle_open : ℕ → List Fate → OpenAttempt → OpenSettlement → OpenSettlement
settle_open now fates a r =
    if is_open_broken a fates
    then ends_now a.start (Fails now) r
    else (
    if is_some (with_open fates a).awaited || not (a.positions == 0)
    then stays_open (with_open fates a) r
    else ends_now a.start (if a.accepted then Holds now else Vacuous now) r
    )

abbrev pub settle_each : ℕ → List Fate → List OpenAttempt → ℕ → Ran OpenSettlement
settle_each now fates [] left = done (record { live = []; decided = [] }) left
settle_each now fates (a ∷ others) left =
    costs_one left (λ left.
    and_then (settle_each now fates others left) (λ r left.
    done (settle_open now fates a r) left))

-- where the clock is disabled
abbrev pub disable_each : ℕ → List OpenAttempt → ℕ → Ran (List Decided)
disable_each now [] left = done [] left
disable_each now (a ∷ others) left =
    costs_one left (λ left.
    and_then (disable_each now others left) (λ ds left.
    done (record { start = a.start; verdict = Disabled now } ∷ ds) left))

-- what a clock leaves live, and what it decided
pub record OpenSettled : Type 0 where
  pub state : OpenStanding
  pub decided : List Decided

abbrev pub opened_if :
    Bool → ProgramData → ℕ → List Obligation → (List Obligation → Ran OpenSettled)
    → Ran OpenSettled
opened_if false p now os go = go os
opened_if true p now os go =
    opened p.header.limits.obligations p.consequent os
    (record { tick = now; positions = p.consequent.start }) go

-- from the visits of obligations on
abbrev pub end_open :
    ProgramData → ℕ → List Bool → List OpenAttempt → ℕ → List Obligation → Ran OpenSettled
end_open p now atoms live left os =
    and_then (visit_obligations p.consequent atoms os left) (λ fates left.
    and_then (settle_each now fates live left) (λ r left.
    done
    (record {
      state = record { now = now + 1; attempts = r.live; obligations = staying fates };
      decided = r.decided;
    })
    left))

-- the clock with its attempt open and these atoms, disabled or not
abbrev pub clock_with :
    ProgramData → ℕ → List Bool → List OpenAttempt → List Obligation → ℕ → Option Bool
    → Ran OpenSettled
clock_with p now atoms live os left None = trapped bad_operand
clock_with p now atoms live os left (Some true) =
    and_then (disable_each now live left) (λ ds left.
    done
    (record {
      state = record { now = now + 1; attempts = []; obligations = [] };
      decided = ds;
    })
    left)
clock_with p now atoms live os left (Some false) =
    and_then (visit_each p.antecedent atoms now live left) (λ vs left.
    opened_if vs.accepted p now os (end_open p now atoms vs.attempts left))

-- A clock after its sample code, with the atoms that this gave and the cost that it left. An
-- attempt that begins awaits nothing and never accepted.
abbrev pub open_clock_after : ProgramData → OpenStanding → List Bool → ℕ → Ran OpenSettled
open_clock_after p s atoms left =
    opened p.header.limits.attempts p.antecedent s.attempts
    (record { start = s.now; positions = p.antecedent.start; awaited = []; accepted = false })
    (λ live. clock_with p s.now atoms live s.obligations left (disabling p.header.disable atoms))

-- What stands between two clocks, and what a clock comes to.
pub record OpenState : Type 0 where
  pub standing : OpenStanding
  pub rows : List (List ℕ)
  pub counters : List ℕ

pub record OpenOutcome : Type 0 where
  pub state : OpenState
  pub decided : List Decided

-- A clock over the values of the signals.
abbrev pub open_clock : ProgramData → OpenState → List ℕ → Ran OpenOutcome
open_clock p s signals =
    let rows = (1 ∷ (signals ++ s.counters)) ∷ take p.header.limits.history s.rows in
    and_then
    (run_sample (frame_of p) p.header.limits (sample_of rows) p.sample p.header.limits.budget 0 []
    (nothing_made (frame_of p)))
    (λ made left.
    and_then (open_clock_after p s.standing made.atoms left)
    (λ r left.
    done
    (record {
      state = record {
        standing = r.state;
        rows = rows;
        counters = stored made.stores s.counters;
      };
      decided = r.decided;
    })
    left))

-- The attempt that one with a set of all ticks at which it accepted stands for, beside these
-- obligations.
abbrev pub open_attempt : List Obligation → Attempt → OpenAttempt
open_attempt os a = record {
  start = a.start;
  positions = a.positions;
  awaited = awaited_ticks a os;
  accepted = not (a.awaited == 0);
}

abbrev pub open_standing : Standing → OpenStanding
open_standing s = record {
  now = s.now;
  attempts = map (open_attempt s.obligations) s.attempts;
  obligations = s.obligations;
}

abbrev pub open_state : State → OpenState
open_state s = record {
  standing = open_standing s.standing;
  rows = s.rows;
  counters = s.counters;
}

abbrev pub open_outcome : Ran Outcome → Ran OpenOutcome
open_outcome r =
    and_then r (λ o left.
    done (record { state = open_state o.state; decided = o.decided }) left)

-- Over any rows, a clock of the checked machine comes to what it comes to over such attempts: the
-- same trap, or the same decisions at the same cost, and the next state of the one is that of the
-- other. This is so of each program, accepted or not.
abbrev pub ClocksAgree : Type 0
ClocksAgree =
    (p : ProgramData) (rows : List (List ℕ)) (s : State) (left : ℕ) (signals : List ℕ) →
    clocks p (opening p) rows ≡ done s left →
    open_outcome (clock p s signals) ≡ open_clock p (open_state s) signals
