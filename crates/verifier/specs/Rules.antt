-- Rules of instructions: what the faults of code and its typing need to know of each, for sample
-- code and for blocks.
use Rattle.std.specs.Prelude.{ℕ, ◌==◌, nat_lt, if◌then◌else◌, List, [], ◌∷◌}
use Rattle.bytecode_programs.specs.declared.flow.Flow.{Flow}
use Rattle.bytecode_programs.specs.declared.sample_instr.SampleInstr.{SampleInstr}
use Rattle.bytecode_programs.specs.declared.block_instr.BlockInstr.{BlockInstr}
use Rattle.bytecode_programs.specs.declared.block_instr.BlockInstr.TheVariants.{Unless, Enter}
use Rattle.bytecode_programs.specs.declared.block_instr.BlockInstr.TheVariants.{Accept, Stop}
use Rattle.bytecode_programs.specs.declared.block_instr.BlockInstr.TheVariants.{AcceptFirst}
use Rattle.bytecode_programs.specs.Instructions.{FrameData, Effect, leaves, sample_flow}
use Rattle.bytecode_programs.specs.Instructions.{sample_effect}
use Rattle.bytecode_programs.specs.Instructions.{is_there, block_flow}
use Rattle.verifier.specs.declared.side.Side.{Side}
use Rattle.verifier.specs.declared.side.Side.TheVariants.{Antecedent, Consequent}
use Rattle.verifier.specs.declared.refusal.Refusal.{Refusal}
use Rattle.verifier.specs.declared.refusal.Refusal.TheVariants.{SlotRange, Cycle}
use Rattle.verifier.specs.declared.refusal.Refusal.TheVariants.{AcceptKind}

-- Rules for instructions of a kind.
pub record Rules (I : Type 0) : Type 0 where
  -- where it leads
  pub flow : I → Flow
  -- the stack rule
  pub effect : I → List ℕ → Effect
  -- the faults of what it names, at this pc
  pub names : ℕ → I → List Refusal
  -- the section that its code is
  pub section : ℕ

abbrev pub sample_names : FrameData → ℕ → SampleInstr → List Refusal
sample_names f pc i = if is_there f i then [] else SlotRange pc ∷ []

abbrev pub sample_rules : FrameData → Rules SampleInstr
sample_rules f =
    record { flow = sample_flow; effect = sample_effect f; names = sample_names f; section = 1 }

-- the section of a side
abbrev pub section_of_side : Side → ℕ
section_of_side Antecedent = 2
section_of_side Consequent = 3

-- in the block of position p: AcceptFirst stands in the antecedent alone
abbrev pub block_names : ℕ → ℕ → ℕ → ℕ → ℕ → BlockInstr → List Refusal
block_names section atoms positions p pc (Unless atom target) =
    if nat_lt atom atoms then [] else SlotRange pc ∷ []
block_names section atoms positions p pc (Enter q) =
    if nat_lt q positions then (if nat_lt p q then [] else Cycle p ∷ []) else SlotRange pc ∷ []
block_names section atoms positions p pc Accept = []
block_names section atoms positions p pc Stop = []
block_names section atoms positions p pc AcceptFirst =
    if section == 2 then [] else AcceptKind pc ∷ []

-- Blocks have no operands: each instruction leaves what it finds.
abbrev pub block_rules : ℕ → ℕ → ℕ → ℕ → Rules BlockInstr
block_rules section atoms positions p =
    record {
      flow = block_flow;
      effect = λ i ws. leaves ws;
      names = block_names section atoms positions p;
      section = section;
    }
