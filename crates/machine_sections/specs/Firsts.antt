-- Sections that accept first: AcceptFirst in place of each Accept.
use Rattle.std.specs.Prelude.{ℕ, Bool, List, [], ◌∷◌, map}
use Rattle.bytecode_programs.specs.declared.block_instr.BlockInstr.{BlockInstr}
use Rattle.bytecode_programs.specs.declared.block_instr.BlockInstr.TheVariants.{Unless, Enter}
use Rattle.bytecode_programs.specs.declared.block_instr.BlockInstr.TheVariants.{Accept, Stop}
use Rattle.bytecode_programs.specs.declared.block_instr.BlockInstr.TheVariants.{AcceptFirst}
use Rattle.bytecode_programs.specs.Values.{SectionData}
use Rattle.assertions.specs.declared.sequence.Boolean.{Boolean}
use Rattle.assertions.specs.Segments.{Seq, Matches}
use Rattle.assertions.specs.Attempts.{every, first_match}
use Rattle.machine_sections.specs.Automata.{AutomatonFollows}
use Rattle.machine_sections.specs.Effects.{automaton_of}

-- AcceptFirst in place of Accept
abbrev pub first_step : BlockInstr → BlockInstr
first_step (Unless atom target) = Unless atom target
first_step (Enter q) = Enter q
first_step Accept = AcceptFirst
first_step Stop = Stop
first_step AcceptFirst = AcceptFirst

abbrev pub accepting_first : SectionData → SectionData
accepting_first s = record { start = s.start; blocks = map (map first_step) s.blocks }

-- no AcceptFirst stands there
abbrev pub HasNoAcceptFirst : List BlockInstr → Type 0
HasNoAcceptFirst [] = Unit {0}
HasNoAcceptFirst (Unless atom target ∷ is) = HasNoAcceptFirst is
HasNoAcceptFirst (Enter q ∷ is) = HasNoAcceptFirst is
HasNoAcceptFirst (Accept ∷ is) = HasNoAcceptFirst is
HasNoAcceptFirst (Stop ∷ is) = HasNoAcceptFirst is
HasNoAcceptFirst (AcceptFirst ∷ is) = ⊥

abbrev pub ArePlain : List (List BlockInstr) → Type 0
ArePlain [] = Unit {0}
ArePlain (b ∷ bs) = HasNoAcceptFirst b × ArePlain bs

-- Where a section follows a sequence without empty matches, the one that accepts first follows the
-- first matches.
abbrev pub AcceptsFirst : Type 0
AcceptsFirst =
    (s : SectionData) (atoms : ℕ → List Bool) (value : Boolean → ℕ → Bool) (r : Seq Boolean) →
    ArePlain s.blocks → ((e : ℕ) → Matches value r e e → ⊥) →
    AutomatonFollows value (every r) (automaton_of s atoms) →
    AutomatonFollows value (first_match r) (automaton_of (accepting_first s) atoms)
