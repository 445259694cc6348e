-- The spellings of a program, one in each version: the fields of the file in their order, numbers
-- with the highest byte first.
use Rattle.std.specs.Prelude.{ℕ, ◌/◌, ◌%◌, ◌^◌, List, [], ◌∷◌, ◌++◌, length, Option, Some, None}
use Rattle.std.specs.Prelude.{◌≡◌, Bool, true, if◌then◌else◌, IsTrue}
use Rattle.std.specs.List.{flat_map}
use Rattle.std.specs.Int.{w16, w32, w64, to_be_bytes}
use Rattle.bytecode_programs.specs.declared.limits.Limits.{Limits}
use Rattle.bytecode_programs.specs.declared.sample_instr.SampleInstr.{SampleInstr}
use Rattle.bytecode_programs.specs.declared.sample_instr.SampleInstr.TheVariants.{Push, Load, Past}
use Rattle.bytecode_programs.specs.declared.sample_instr.SampleInstr.TheVariants.{Zext}
use Rattle.bytecode_programs.specs.declared.sample_instr.SampleInstr.TheVariants.{Slice, Jump}
use Rattle.bytecode_programs.specs.declared.sample_instr.SampleInstr.TheVariants.{JumpIfZero}
use Rattle.bytecode_programs.specs.declared.sample_instr.SampleInstr.TheVariants.{SetAtom, Store}
use Rattle.bytecode_programs.specs.declared.block_instr.BlockInstr.{BlockInstr}
use Rattle.bytecode_programs.specs.declared.block_instr.BlockInstr.TheVariants.{Unless, Enter}
use Rattle.bytecode_programs.specs.declared.block_instr.BlockInstr.TheVariants.{Accept, Stop}
use Rattle.bytecode_programs.specs.declared.block_instr.BlockInstr.TheVariants.{AcceptFirst}
use Rattle.bytecode.specs.Opcodes.{sample_opcode, block_opcode}
use Rattle.bytecode_programs.specs.Values.{SlotData, SectionData, HeaderData, ProgramData}
use Rattle.bytecode_programs.specs.Values.{fits_program_in}

abbrev pub byte : ℕ → List ℕ
byte n = n ∷ []

abbrev pub two : ℕ → List ℕ
two n = to_be_bytes w16 n

abbrev pub four : ℕ → List ℕ
four n = to_be_bytes w32 n

abbrev pub eight : ℕ → List ℕ
eight n = to_be_bytes w64 n

-- the high half, and the low one
abbrev pub sixteen : ℕ → List ℕ
sixteen n = eight (n / 2 ^ 64) ++ eight (n % 2 ^ 64)

-- a count of two bytes, and as many
abbrev pub counted_spelling : {A : Type 0} → (A → List ℕ) → List A → List ℕ
counted_spelling spelling xs = two (length xs) ++ flat_map spelling xs

abbrev pub text_spelling : List ℕ → List ℕ
text_spelling bytes = two (length bytes) ++ bytes

abbrev pub sample_operands : SampleInstr → List ℕ
sample_operands (Push w v) = byte w ++ sixteen v
sample_operands (Load slot) = two slot
sample_operands (Past slot ticks) = two slot ++ two ticks
sample_operands (Zext w) = byte w
sample_operands (Slice high low) = byte high ++ byte low
sample_operands (Jump target) = two target
sample_operands (JumpIfZero target) = two target
sample_operands (SetAtom atom) = byte atom
sample_operands (Store counter) = byte counter
sample_operands i = []

abbrev pub sample_spelling : SampleInstr → List ℕ
sample_spelling i = byte (sample_opcode i) ++ sample_operands i

abbrev pub block_operands : BlockInstr → List ℕ
block_operands (Unless atom target) = byte atom ++ two target
block_operands (Enter position) = byte position
block_operands Accept = []
block_operands Stop = []
block_operands AcceptFirst = []

abbrev pub block_spelling : BlockInstr → List ℕ
block_spelling i = byte (block_opcode i) ++ block_operands i

abbrev pub slot_spelling : SlotData → List ℕ
slot_spelling s = byte s.width ++ text_spelling s.path

-- the start set, how many positions, and the block of each
abbrev pub section_spelling : SectionData → List ℕ
section_spelling s =
    sixteen s.start ++ byte (length s.blocks) ++ flat_map (counted_spelling block_spelling) s.blocks

abbrev pub limits_spelling : Limits → List ℕ
limits_spelling l =
    two l.history ++ two l.stack ++ two l.attempts ++ two l.obligations ++ four l.budget

-- 255 for none
abbrev pub disable_spelling : Option ℕ → ℕ
disable_spelling None = 255
disable_spelling (Some atom) = atom

-- the version in which AcceptFirst may stand in a block, and the one in which it may not
abbrev pub version_of : Bool → ℕ
version_of first = if first then 2 else 1

-- "SVAM", and the version
abbrev pub head_spelling_in : Bool → List ℕ
head_spelling_in first = 0x53 ∷ 0x56 ∷ 0x41 ∷ 0x4d ∷ version_of first ∷ []

abbrev pub head_spelling : List ℕ
head_spelling = head_spelling_in true

abbrev pub header_spelling : HeaderData → List ℕ
header_spelling h =
    limits_spelling h.limits ++ byte (disable_spelling h.disable) ++ byte h.atoms
    ++ text_spelling h.name ++ text_spelling h.clock

-- what stands before the texts
abbrev pub front_spelling : HeaderData → List ℕ
front_spelling h =
    head_spelling ++ limits_spelling h.limits ++ byte (disable_spelling h.disable) ++ byte h.atoms

-- in version 2 or in version 1
abbrev pub spelling_in : Bool → ProgramData → List ℕ
spelling_in first p =
    head_spelling_in first ++ header_spelling p.header ++ counted_spelling slot_spelling p.signals
    ++ counted_spelling byte p.counters ++ counted_spelling sample_spelling p.sample
    ++ section_spelling p.antecedent ++ section_spelling p.consequent

-- the one that is written
abbrev pub spelling : ProgramData → List ℕ
spelling = spelling_in true

-- The bytes spell it in a version that can.
abbrev pub IsSpelled : List ℕ → ProgramData → Type 0
IsSpelled bytes x =
    (first : Bool) × IsTrue (fits_program_in first x) × (bytes ≡ spelling_in first x)

-- The file is the spelling in version 2 of a program that the bytes spell.
abbrev pub IsUpgraded : List ℕ → List ℕ → Type 0
IsUpgraded bytes file = (x : ProgramData) × IsSpelled bytes x × (file ≡ spelling x)
