-- A worked run: what each clock of a monitor decides, and what it costs.
use Rattle.std.specs.Prelude.{◌≡◌, ℕ, ◌-◌, List, [], ◌∷◌, None}
use Rattle.signals.specs.declared.verdict.Decided.{Decided}
use Rattle.signals.specs.declared.verdict.Verdict.{Verdict}
use Rattle.signals.specs.declared.verdict.Verdict.TheVariants.{Holds, Vacuous, Fails}
use Rattle.bytecode_programs.specs.declared.sample_instr.SampleInstr.TheVariants.{Load, SetAtom}
use Rattle.bytecode_programs.specs.declared.sample_instr.SampleInstr.TheVariants.{Halt}
use Rattle.bytecode_programs.specs.declared.block_instr.BlockInstr.TheVariants.{Unless, Enter}
use Rattle.bytecode_programs.specs.declared.block_instr.BlockInstr.TheVariants.{Accept, Stop}
use Rattle.bytecode_programs.specs.declared.block_instr.BlockInstr.TheVariants.{AcceptFirst}
use Rattle.bytecode_programs.specs.Values.{ProgramData, SlotData}
use Rattle.machine_checked.specs.Outcomes.{done, trapped}
use Rattle.machine_checked.specs.Machine.{State, opening, clock}

-- what each clock decides, and what it costs
pub record Told : Type 0 where
  pub decided : List Decided
  pub cost : ℕ

abbrev pub told_clocks : ProgramData → State → List (List ℕ) → List Told
told_clocks p s [] = []
told_clocks p s (signals ∷ later) = elim (clock p s signals) [
  | done o left ↦
      record { decided = o.decided; cost = p.header.limits.budget - left }
      ∷ told_clocks p o.state later
  | trapped t ↦ []
]

abbrev pub at : ℕ → Verdict → Decided
at start verdict = record { start = start; verdict = verdict }

abbrev pub bit : SlotData
bit = record { width = 1; path = [] }

-- x ##1 y |-> y, over two signals x and y: an attempt that meets x enters position 1, which accepts
-- where y holds at the next tick
abbrev pub two_positions : ProgramData
two_positions =
    record {
      header = record {
        limits = record { history = 0; stack = 1; attempts = 2; obligations = 1; budget = 25 };
        disable = None;
        atoms = 2;
        name = [];
        clock = [];
      };
      signals = bit ∷ bit ∷ [];
      counters = [];
      sample = Load 1 ∷ SetAtom 0 ∷ Load 2 ∷ SetAtom 1 ∷ Halt ∷ [];
      antecedent = record {
        start = 1;
        blocks = (Unless 0 2 ∷ Enter 1 ∷ Stop ∷ []) ∷ (Unless 1 5 ∷ Accept ∷ Stop ∷ []) ∷ [];
      };
      consequent = record { start = 1; blocks = (Unless 1 2 ∷ Accept ∷ Stop ∷ []) ∷ [] };
    }

-- Over x = 1, 1, 0 and y = 0, 1, 0 the first attempt holds at tick 1, and the two others are
-- vacuous at tick 2, at a cost of 10, 19 and 13.
abbrev pub TwoPositionsRun : Type 0
TwoPositionsRun =
    told_clocks two_positions (opening two_positions)
    ((1 ∷ 0 ∷ []) ∷ (1 ∷ 1 ∷ []) ∷ (0 ∷ 0 ∷ []) ∷ [])
    ≡ record { decided = []; cost = 10 }
    ∷ record { decided = at 0 (Holds 1) ∷ []; cost = 19 }
    ∷ record { decided = at 1 (Vacuous 2) ∷ at 2 (Vacuous 2) ∷ []; cost = 13 }
    ∷ []

-- An antecedent of three positions, of which 0 and 1 begin: 0 accepts where x holds, 1 enters 2,
-- and 2 accepts; each accepts first. The consequent is x.
abbrev pub first_positions : ProgramData
first_positions =
    record {
      header = record {
        limits = record { history = 0; stack = 1; attempts = 2; obligations = 1; budget = 40 };
        disable = None;
        atoms = 1;
        name = [];
        clock = [];
      };
      signals = bit ∷ [];
      counters = [];
      sample = Load 1 ∷ SetAtom 0 ∷ Halt ∷ [];
      antecedent = record {
        start = 3;
        blocks =
            (Unless 0 2 ∷ AcceptFirst ∷ Stop ∷ []) ∷ (Enter 2 ∷ Stop ∷ [])
            ∷ (AcceptFirst ∷ Stop ∷ []) ∷ [];
      };
      consequent = record { start = 1; blocks = (Unless 0 2 ∷ Accept ∷ Stop ∷ []) ∷ [] };
    }

-- Over x = 1, 0, 0 the first attempt accepts at tick 0, the block of position 1 runs none the less,
-- and what it enters is dropped: it holds at tick 0. The second waits in position 2, accepts and
-- fails at tick 2. These cost 14, 9 and 16.
abbrev pub FirstPositionsRun : Type 0
FirstPositionsRun =
    told_clocks first_positions (opening first_positions) ((1 ∷ []) ∷ (0 ∷ []) ∷ (0 ∷ []) ∷ [])
    ≡ record { decided = at 0 (Holds 0) ∷ []; cost = 14 }
    ∷ record { decided = []; cost = 9 }
    ∷ record { decided = at 1 (Fails 2) ∷ []; cost = 16 }
    ∷ []
