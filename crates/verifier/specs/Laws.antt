-- Laws of typing and of acceptance.
use Rattle.std.specs.Prelude.{◌≡◌, ◌↔◌, ℕ, List, []}
use Rattle.bytecode_programs.specs.declared.sample_instr.SampleInstr.{SampleInstr}
use Rattle.bytecode_programs.specs.Values.{SectionData, ProgramData}
use Rattle.bytecode_programs.specs.Instructions.{FrameData, frame_of}
use Rattle.verifier.specs.Rules.{sample_rules}
use Rattle.verifier.specs.Inference.{code_faults}
use Rattle.verifier.specs.Typing.{IsTypable, IsCodeTyped, AreShort, longest_list}
use Rattle.verifier.specs.Sections.{section_faults, IsSection}
use Rattle.verifier.specs.Programs.{part_faults, all_faults, least_stack, IsWellFormed, HasRoom}
use Rattle.verifier.specs.Programs.{IsAccepted}

-- No fault stands in sample code exactly where some table types it.
abbrev pub SampleIsTypableWhereFaultless : Type 0
SampleIsTypableWhereFaultless =
    (f : FrameData) (code : List SampleInstr) →
    (code_faults (sample_rules f) 0 code ≡ []) ↔ IsTypable f code

-- No fault stands in a section exactly where it is well formed.
abbrev pub SectionIsWellFormedWhereFaultless : Type 0
SectionIsWellFormedWhereFaultless =
    (section atoms : ℕ) (s : SectionData) →
    (section_faults section atoms s ≡ []) ↔ IsSection section atoms s

-- No fault stands exactly where a program is accepted.
abbrev pub IsAcceptedWhereFaultless : Type 0
IsAcceptedWhereFaultless = (p : ProgramData) → (all_faults p ≡ []) ↔ IsAccepted p

-- No fault but those of the limits stands exactly where a program is well formed and nothing is
-- over the most.
abbrev pub IsFormedWhereFaultless : Type 0
IsFormedWhereFaultless = (p : ProgramData) → (part_faults p ≡ []) ↔ (IsWellFormed p × HasRoom p)

-- The least stack is the longest list of any table that types the sample code.
abbrev pub LeastStackIsOfAnyTable : Type 0
LeastStackIsOfAnyTable =
    (p : ProgramData) (table : ℕ → List ℕ) →
    IsCodeTyped (sample_rules (frame_of p)) 0 p.sample table →
    AreShort (sample_rules (frame_of p)) 0 p.sample table →
    least_stack p ≡ longest_list table 0 p.sample
