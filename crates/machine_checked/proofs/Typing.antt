-- Well formed sections and limits, in the form that the clock needs.
use Rattle.std.specs.Prelude.{◌≡◌, ℕ, ◌+◌, ◌-◌, ◌*◌, ◌^◌, ◌<◌, ◌≤◌, List, [], ◌∷◌, length, Option}
use Rattle.std.specs.Prelude.{Some, None, slice_get}
use Rattle.bytecode_programs.specs.declared.block_instr.BlockInstr.{BlockInstr}
use Rattle.bytecode_programs.specs.declared.block_instr.BlockInstr.TheVariants.{Unless, Enter, Accept, Stop}
use Rattle.bytecode_programs.specs.declared.block_instr.BlockInstr.TheVariants.{AcceptFirst}
use Rattle.bytecode_programs.specs.Values.{SectionData, ProgramData}
use Rattle.verifier.specs.Limits.{path_sum}
use Rattle.verifier.specs.Programs.{least_attempts, least_obligations}

-- an instruction at pc, in the block of position p, which ends at end
abbrev pub IsFine : ℕ → ℕ → ℕ → ℕ → ℕ → BlockInstr → Type 0
IsFine atoms positions p end pc (Unless atom target) = (atom < atoms) × (pc < target) × (target < end)
IsFine atoms positions p end pc (Enter q) = (p < q) × (q < positions)
IsFine atoms positions p end pc Accept = Unit {0}
IsFine atoms positions p end pc AcceptFirst = Unit {0}
IsFine atoms positions p end pc Stop = Unit {0}

-- the block of position p, which begins at base
pub record IsBlock (atoms positions p base : ℕ) (block : List BlockInstr) : Type 0 where
  pub each : (k : ℕ) (i : BlockInstr) → slice_get block k ≡ Some i
      → IsFine atoms positions p (base + length block) (base + k) i
  pub stops : slice_get block (length block - 1) ≡ Some Stop

-- the blocks from position p on
abbrev pub AreBlocks : ℕ → ℕ → ℕ → ℕ → List (List BlockInstr) → Type 0
AreBlocks atoms positions p base [] = Unit {0}
AreBlocks atoms positions p base (b ∷ bs) =
    IsBlock atoms positions p base b × AreBlocks atoms positions (p + 1) (base + length b) bs

pub record IsSection (atoms : ℕ) (s : SectionData) : Type 0 where
  pub blocks : AreBlocks atoms (length s.blocks) 0 0 s.blocks
  pub start : s.start < 2 ^ length s.blocks

-- the disabling atom is there
abbrev pub IsAtom : Option ℕ → ℕ → Type 0
IsAtom None atoms = Unit {0}
IsAtom (Some atom) atoms = atom < atoms

pub record IsWellFormed (p : ProgramData) : Type 0 where
  pub disable : IsAtom p.header.disable p.header.atoms
  pub antecedent : IsSection p.header.atoms p.antecedent
  pub consequent : IsSection p.header.atoms p.consequent

-- the declared limits are at least these, where the longest path of the sample code has so many instructions
pub record IsWithinLimits (p : ProgramData) (sample : ℕ) : Type 0 where
  pub attempts : least_attempts p ≤ p.header.limits.attempts
  pub obligations : least_obligations p ≤ p.header.limits.obligations
  pub budget :
      sample
      + least_attempts p * (2 + path_sum 0 p.antecedent.blocks)
      + least_obligations p * (1 + path_sum 0 p.consequent.blocks)
      ≤ p.header.limits.budget
