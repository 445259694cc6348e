-- What the blocks of a section make of the atoms of a tick, where each jump goes forward to an
-- instruction of its block: without budget and traps.
use Rattle.std.specs.Prelude.{ℕ, suc, zero, ◌+◌, ◌-◌, ◌^◌, ◌==◌, Bool, true, false}
use Rattle.std.specs.Prelude.{if◌then◌else◌, List, [], ◌∷◌, length, slice_index_or, bit_or}
use Rattle.std.specs.Int.{bit_at}
use Rattle.bytecode_programs.specs.declared.block_instr.BlockInstr.{BlockInstr}
use Rattle.bytecode_programs.specs.declared.block_instr.BlockInstr.TheVariants.{Unless, Enter}
use Rattle.bytecode_programs.specs.declared.block_instr.BlockInstr.TheVariants.{Accept, Stop}
use Rattle.bytecode_programs.specs.declared.block_instr.BlockInstr.TheVariants.{AcceptFirst}
use Rattle.bytecode_programs.specs.Values.{SectionData}
use Rattle.machine_checked.specs.Blocks.{Visit, ended}
use Rattle.machine_sections.specs.Automata.{Automaton}

-- What the instructions from pc on make, the first so many of them jumped over.
abbrev pub effect : List Bool → ℕ → ℕ → List BlockInstr → Visit → Visit
effect atoms skipped pc [] v = v
effect atoms (suc skipped) pc (i ∷ is) v = effect atoms skipped (pc + 1) is v
effect atoms zero pc (Stop ∷ is) v = v
effect atoms zero pc (Accept ∷ is) v =
    effect atoms zero (pc + 1) is (record { entered = v.entered; accepted = true; first = v.first })
effect atoms zero pc (AcceptFirst ∷ is) v =
    effect atoms zero (pc + 1) is (record { entered = v.entered; accepted = true; first = true })
effect atoms zero pc (Enter q ∷ is) v =
    effect atoms zero (pc + 1) is
    (record { entered = bit_or v.entered (2 ^ q); accepted = v.accepted; first = v.first })
effect atoms zero pc (Unless atom target ∷ is) v =
    effect atoms (if slice_index_or atoms atom true then 0 else target - (pc + 1)) (pc + 1) is v

-- what the blocks of a set make, of those from position p on, of which the first begins at base
abbrev pub effects : List Bool → ℕ → ℕ → ℕ → List (List BlockInstr) → Visit → Visit
effects atoms set p base [] v = v
effects atoms set p base (b ∷ bs) v =
    effects atoms set (p + 1) (base + length b) bs
    (if bit_at set p == 1 then effect atoms 0 base b v else v)

-- what a set of positions does on these atoms
unfoldable pub visit_of : SectionData → List Bool → ℕ → Visit
visit_of s atoms set =
    ended (effects atoms set 0 0 s.blocks
    (record { entered = 0; accepted = false; first = false }))

-- a section on the atoms of each tick
abbrev pub automaton_of : SectionData → (ℕ → List Bool) → Automaton
automaton_of s atoms = record { start = s.start; step = λ k. visit_of s (atoms k) }
