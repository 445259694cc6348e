-- A program whose sections follow an antecedent and a consequent decides by their meaning.
use Rattle.std.specs.Prelude.{◌≡◌, ℕ, ◌+◌, ◌<◌, ◌≤◌, Bool, List, length, map}
use Rattle.std.specs.List.{range_with_len, flat_map}
use Rattle.signals.specs.declared.verdict.Verdict.{Verdict}
use Rattle.signals.specs.declared.verdict.Decided.{Decided}
use Rattle.bytecode_programs.specs.Values.{ProgramData}
use Rattle.bytecode_programs.specs.Instructions.{sample_flow}
use Rattle.verifier.specs.Limits.{longest_path}
use Rattle.verifier.specs.Programs.{IsAccepted}
use Rattle.assertions.specs.declared.sequence.Boolean.{Boolean}
use Rattle.assertions.specs.Segments.{Seq, Matches}
use Rattle.assertions.specs.Attempts.{Antecedent, every, verdict}
use Rattle.machine_checked.specs.Outcomes.{Meets}
use Rattle.machine_checked.specs.Clocks.{Attempt, none_standing}
use Rattle.machine_checked.specs.Machine.{State, sample_of}
use Rattle.machine_checked.specs.Runs.{Decides}
use Rattle.machine_sections.specs.Automata.{AutomatonFollows}
use Rattle.machine_sections.specs.Effects.{automaton_of}
use Rattle.machine_sections.specs.Monitors.{program_monitor}
use Rattle.machine_sections.specs.Standing.{select_ticks, is_open, falls_at}
use Rattle.machine_sections.specs.Clocked.{Sampled, Clocked, clocks_after}
use Rattle.machine_sections.specs.History.{clock_row, sample_rows, slot_held_at, SamplesAs}

-- On these atoms of each tick the sections follow the antecedent r and the consequent s.
pub record Watches {B : Type 0} (p : ProgramData) (atoms : ℕ → List Bool) (value : B → ℕ → Bool)
    (r : Antecedent B) (s : Seq B) : Type 0 where
  pub antecedent : AutomatonFollows value r (automaton_of p.antecedent atoms)
  pub consequent : AutomatonFollows value (every s) (automaton_of p.consequent atoms)

-- no match is empty
abbrev pub Fills : {B : Type 0} → (B → ℕ → Bool) → Seq B → Type 0
Fills value s = (e : ℕ) → Matches value s e e → ⊥

-- The verdicts over so many ticks that fall at a clock, by start; verdict c is that on the attempt
-- that begins at c.
abbrev pub fallen : (ℕ → Verdict) → ℕ → ℕ → List Decided
fallen verdict count clock =
    select_ticks (λ c. falls_at clock (verdict c))
    (λ c. record { start = c; verdict = verdict c }) 0
    count

-- where the attempts began that are open over so many ticks
abbrev pub open_starts : (ℕ → Verdict) → ℕ → List ℕ
open_starts verdict count = select_ticks (λ c. is_open (verdict c)) (λ c. c) 0 count

abbrev pub starts_of : List Attempt → List ℕ
starts_of live = map (λ a. a.start) live

-- Each clock decided the attempts whose verdicts over all the ticks fall at it, and those that are
-- live are open.
pub record IsJudged (verdict : ℕ → Verdict) (count : ℕ) (run : Clocked) : Type 0 where
  pub batches : run.batches ≡ map (fallen verdict count) (range_with_len 0 count)
  pub live : starts_of run.standing.attempts ≡ open_starts verdict count

-- The sample code of a tick set an atom for each of the program's, and took no more cost than its
-- longest path.
pub record IsSampled (p : ProgramData) (c : Sampled) : Type 0 where
  pub atoms : length c.atoms ≡ p.header.atoms
  pub left : p.header.limits.budget ≤ c.left + longest_path 0 (map sample_flow p.sample)

abbrev pub sampled_at : (ℕ → List Bool) → (ℕ → ℕ) → ℕ → Sampled
sampled_at atoms left k = record { atoms = atoms k; left = left k }

-- Over any atoms the clocks of the checked machine have no trap, and decide by the meaning.
abbrev pub DecidesByMeaning : Type 0
DecidesByMeaning =
    (p : ProgramData) (atoms : ℕ → List Bool) (left : ℕ → ℕ) (value : Boolean → ℕ → Bool)
    (r : Antecedent Boolean) (s : Seq Boolean) (count : ℕ) → IsAccepted p →
    ((k : ℕ) → k < count → IsSampled p (sampled_at atoms left k)) →
    Watches p atoms value r s → Fills value s →
    Meets (λ run left. IsJudged (verdict value (program_monitor p atoms).off r s count) count run)
    (clocks_after p none_standing (map (sampled_at atoms left) (range_with_len 0 count)))

-- all verdicts that fall over so many ticks, by clock, then start
abbrev pub all_fallen : (ℕ → Verdict) → ℕ → List Decided
all_fallen verdict count = flat_map (fallen verdict count) (range_with_len 0 count)

-- Over so many rows the program meets no trap and decides, by clock, then start, the attempts whose
-- verdicts fall, and those that are live after them are open.
pub record IsJudgedOver (p : ProgramData) (rows : List (List ℕ)) (verdict : ℕ → Verdict)
    (count : ℕ) : Type 0 where
  pub last : State
  pub ran : Decides p rows (all_fallen verdict count) last
  pub live : starts_of last.standing.attempts ≡ open_starts verdict count

-- Where the sample code sets atoms on which the sections follow an antecedent and a consequent, the
-- program decides by their meaning over the rows of the signals.
abbrev pub RunsByMeaning : Type 0
RunsByMeaning =
    (p : ProgramData) (signals counters : ℕ → List ℕ) (atoms : ℕ → List Bool)
    (value : Boolean → ℕ → Bool) (r : Antecedent Boolean) (s : Seq Boolean) (count : ℕ) →
    IsAccepted p →
    SamplesAs p signals counters atoms count → Watches p atoms value r s → Fills value s →
    IsJudgedOver p (map signals (range_with_len 0 count))
    (verdict value (program_monitor p atoms).off r s count) count

-- What sample code reads of a slot so far back as the declared history is what the slot held then.
abbrev pub ReadsHeld : Type 0
ReadsHeld =
    (p : ProgramData) (signals counters : ℕ → List ℕ) (k back slot : ℕ) →
    back ≤ p.header.limits.history →
    sample_of (sample_rows p signals counters k) back slot
    ≡ slot_held_at (clock_row signals counters) k back slot
