-- Sections: their faults, and which of them are well formed.
use Rattle.std.specs.Prelude.{ℕ, ◌+◌, ◌^◌, ◌<◌, nat_lt, if◌then◌else◌, List, [], ◌∷◌, ◌++◌, length}
use Rattle.bytecode_programs.specs.Values.{SectionData}
use Rattle.bytecode_programs.specs.declared.block_instr.BlockInstr.{BlockInstr}
use Rattle.verifier.specs.declared.refusal.Refusal.TheVariants.{SlotRange}
use Rattle.verifier.specs.Rules.{block_rules}
use Rattle.verifier.specs.Inference.{Found, found, code_faults}
use Rattle.verifier.specs.Typing.{IsCodeTyped}

-- The faults of the blocks from position p on, of which the first begins at base.
abbrev pub blocks_faults : ℕ → ℕ → ℕ → ℕ → ℕ → List (List BlockInstr) → List Found
blocks_faults section atoms positions p base [] = []
blocks_faults section atoms positions p base (b ∷ bs) =
    code_faults (block_rules section atoms positions p) base b
    ++ blocks_faults section atoms positions (p + 1) (base + length b) bs

-- a start bit past the positions
abbrev pub start_faults : ℕ → SectionData → List Found
start_faults section s =
    if nat_lt s.start (2 ^ length s.blocks) then [] else found section 0 (SlotRange 0) ∷ []

abbrev pub section_faults : ℕ → ℕ → SectionData → List Found
section_faults section atoms s =
    start_faults section s ++ blocks_faults section atoms (length s.blocks) 0 0 s.blocks

-- The blocks from position p on are typed, each by the table of empty lists.
abbrev pub AreTyped : ℕ → ℕ → ℕ → ℕ → ℕ → List (List BlockInstr) → Type 0
AreTyped section atoms positions p base [] = Unit {0}
AreTyped section atoms positions p base (b ∷ bs) =
    IsCodeTyped (block_rules section atoms positions p) base b (λ pc. [])
    × AreTyped section atoms positions (p + 1) (base + length b) bs

pub record IsSection (section atoms : ℕ) (s : SectionData) : Type 0 where
  pub start : s.start < 2 ^ length s.blocks
  pub blocks : AreTyped section atoms (length s.blocks) 0 0 s.blocks

-- how many instructions the blocks have
abbrev pub instructions_in : List (List BlockInstr) → ℕ
instructions_in [] = 0
instructions_in (b ∷ bs) = length b + instructions_in bs
