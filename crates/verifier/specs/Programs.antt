-- Programs: all their faults, and which of them are well formed.
use Rattle.std.specs.Prelude.{◌≡◌, ℕ, ◌+◌, ◌-◌, ◌*◌, ◌<◌, ◌≤◌, nat_lt, if◌then◌else◌, List, [], ◌∷◌}
use Rattle.std.specs.Prelude.{◌++◌, length, map, Option, Some, None}
use Rattle.bytecode_programs.specs.declared.limits.Limits.{Limits}
use Rattle.verifier.specs.declared.least.LeastLimits.{LeastLimits}
use Rattle.verifier.specs.declared.pool.Pool.TheVariants as pools
use Rattle.verifier.specs.declared.field.Field.{Field}
use Rattle.verifier.specs.declared.field.Field.TheVariants as fields
use Rattle.verifier.specs.declared.refusal.Refusal.{Refusal}
use Rattle.verifier.specs.declared.refusal.Refusal.TheVariants.{SlotRange}
use Rattle.verifier.specs.declared.refusal.Refusal.TheVariants.{HistoryTooShort}
use Rattle.verifier.specs.declared.refusal.Refusal.TheVariants.{StackTooShort}
use Rattle.verifier.specs.declared.refusal.Refusal.TheVariants.{PoolTooSmall}
use Rattle.verifier.specs.declared.refusal.Refusal.TheVariants.{BudgetTooSmall}
use Rattle.verifier.specs.declared.refusal.Refusal.TheVariants.{LimitTooLarge}
use Rattle.bytecode_programs.specs.Instructions.{frame_of, sample_flow}
use Rattle.verifier.specs.Rules.{sample_rules}
use Rattle.verifier.specs.Inference.{Found, found, code_faults}
use Rattle.bytecode_programs.specs.Values.{ProgramData}
use Rattle.verifier.specs.Sections.{section_faults, IsSection, instructions_in}
use Rattle.verifier.specs.Scans.{entry_longest}
use Rattle.verifier.specs.Typing.{IsCodeTyped, AreShort, longest_list}
use Rattle.verifier.specs.Limits.{farthest, longest_path, path_sum, start_life}

abbrev pub disable_faults : Option ℕ → ℕ → List Refusal
disable_faults None atoms = []
disable_faults (Some atom) atoms = if nat_lt atom atoms then [] else SlotRange 0 ∷ []

-- a number that is over the most that there may be
abbrev pub over : ℕ → ℕ → Field → List Refusal
over most n field = if nat_lt most n then LimitTooLarge field ∷ [] else []

abbrev pub header_refusals : ProgramData → List Refusal
header_refusals p =
    disable_faults p.header.disable p.header.atoms
    ++ over 4096 p.header.limits.history fields.History
    ++ over 1024 p.header.limits.stack fields.Stack
    ++ over 1024 p.header.limits.attempts fields.Attempts
    ++ over 1024 p.header.limits.obligations fields.Obligations
    ++ over 16777216 p.header.limits.budget fields.Budget
    ++ over 127 p.header.atoms fields.Atoms
    ++ over 256 (length (frame_of p).slots) fields.Slots
    ++ over 4096 (length p.sample) fields.Sample
    ++ over 127 (length p.antecedent.blocks) fields.AntecedentPositions
    ++ over 4096 (instructions_in p.antecedent.blocks) fields.AntecedentCode
    ++ over 127 (length p.consequent.blocks) fields.ConsequentPositions
    ++ over 4096 (instructions_in p.consequent.blocks) fields.ConsequentCode

-- The least limits. That of the stack is the longest list that is agreed on, which is the longest
-- of the table.
abbrev pub least_stack : ProgramData → ℕ
least_stack p = entry_longest (sample_rules (frame_of p)) p.sample

abbrev pub least_attempts : ProgramData → ℕ
least_attempts p = start_life p.antecedent + start_life p.consequent - 1

abbrev pub least_obligations : ProgramData → ℕ
least_obligations p = start_life p.consequent

abbrev pub least_budget : ProgramData → ℕ
least_budget p =
    longest_path 0 (map sample_flow p.sample)
    + least_attempts p * (2 + path_sum 0 p.antecedent.blocks)
    + least_obligations p * (1 + path_sum 0 p.consequent.blocks)

-- the least limits that serve a program
abbrev pub least_limits : ProgramData → LeastLimits
least_limits p =
    record {
      history = farthest p.sample;
      stack = least_stack p;
      attempts = least_attempts p;
      obligations = least_obligations p;
      budget = least_budget p;
    }

-- declared below the least
abbrev pub below : ℕ → ℕ → Refusal → List Refusal
below declared least refusal = if nat_lt declared least then refusal ∷ [] else []

abbrev pub limit_refusals : Limits → LeastLimits → List Refusal
limit_refusals d l =
    below d.history l.history (HistoryTooShort l.history)
    ++ below d.stack l.stack (StackTooShort l.stack)
    ++ below d.attempts l.attempts (PoolTooSmall pools.Attempts l.attempts)
    ++ below d.obligations l.obligations (PoolTooSmall pools.Obligations l.obligations)
    ++ below d.budget l.budget (BudgetTooSmall l.budget)

abbrev pub sample_faults : ProgramData → List Found
sample_faults p = code_faults (sample_rules (frame_of p)) 0 p.sample

-- the faults of all but the limits
abbrev pub part_faults : ProgramData → List Found
part_faults p =
    map (found 0 0) (header_refusals p)
    ++ sample_faults p
    ++ section_faults 2 p.header.atoms p.antecedent
    ++ section_faults 3 p.header.atoms p.consequent

-- All faults of the header, of the sample code and of the sections, and then those of the limits.
abbrev pub all_faults : ProgramData → List Found
all_faults p =
    part_faults p ++ map (found 4 0) (limit_refusals p.header.limits (least_limits p))

-- nothing is over the most that there may be
pub record HasRoom (p : ProgramData) : Type 0 where
  pub history : p.header.limits.history ≤ 4096
  pub stack : p.header.limits.stack ≤ 1024
  pub attempts : p.header.limits.attempts ≤ 1024
  pub obligations : p.header.limits.obligations ≤ 1024
  pub budget : p.header.limits.budget ≤ 16777216
  pub atoms : p.header.atoms ≤ 127
  pub slots : (length (frame_of p).slots) ≤ 256
  pub sample : (length p.sample) ≤ 4096
  pub antecedent_positions : (length p.antecedent.blocks) ≤ 127
  pub antecedent_code : (instructions_in p.antecedent.blocks) ≤ 4096
  pub consequent_positions : (length p.consequent.blocks) ≤ 127
  pub consequent_code : (instructions_in p.consequent.blocks) ≤ 4096

-- the disabling atom is there
abbrev pub IsAtom : Option ℕ → ℕ → Type 0
IsAtom None atoms = Unit {0}
IsAtom (Some atom) atoms = atom < atoms

pub record IsWellFormed (p : ProgramData) : Type 0 where
  pub disable : IsAtom p.header.disable p.header.atoms
  -- the lists of the sample code
  pub table : ℕ → List ℕ
  pub sample : IsCodeTyped (sample_rules (frame_of p)) 0 p.sample table
  pub short : AreShort (sample_rules (frame_of p)) 0 p.sample table
  pub antecedent : IsSection 2 p.header.atoms p.antecedent
  pub consequent : IsSection 3 p.header.atoms p.consequent

-- What is accepted, in the words of tables alone: no list passes 1,024, which follows from
-- the stack.
pub record IsAccepted (p : ProgramData) : Type 0 where
  pub disable : IsAtom p.header.disable p.header.atoms
  pub table : ℕ → List ℕ
  pub sample : IsCodeTyped (sample_rules (frame_of p)) 0 p.sample table
  pub antecedent : IsSection 2 p.header.atoms p.antecedent
  pub consequent : IsSection 3 p.header.atoms p.consequent
  -- nothing is over the most
  pub room : HasRoom p
  -- the declared limits are at least the least
  pub history : farthest p.sample ≤ p.header.limits.history
  pub stack : longest_list table 0 p.sample ≤ p.header.limits.stack
  pub attempts : least_attempts p ≤ p.header.limits.attempts
  pub obligations : least_obligations p ≤ p.header.limits.obligations
  pub budget : least_budget p ≤ p.header.limits.budget

-- accepted, with these least limits
pub record IsVerified (p : ProgramData) (least : LeastLimits) : Type 0 where
  pub accepted : IsAccepted p
  pub is_least : least ≡ least_limits p
