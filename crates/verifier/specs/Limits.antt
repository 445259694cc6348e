-- The least limits.
use Rattle.std.specs.Prelude.{ℕ, ◌+◌, ◌-◌, ◌==◌, if◌then◌else◌, max, List, [], ◌∷◌, length, map}
use Rattle.std.specs.Prelude.{slice_index}
use Rattle.std.specs.Int.{bit_at}
use Rattle.bytecode_programs.specs.declared.flow.Flow.{Flow}
use Rattle.bytecode_programs.specs.declared.flow.Flow.TheVariants.{Stops, GoesOn, Jumps, Branches}
use Rattle.bytecode_programs.specs.declared.sample_instr.SampleInstr.{SampleInstr}
use Rattle.bytecode_programs.specs.declared.sample_instr.SampleInstr.TheVariants.{Past}
use Rattle.bytecode_programs.specs.declared.block_instr.BlockInstr.{BlockInstr}
use Rattle.bytecode_programs.specs.declared.block_instr.BlockInstr.TheVariants.{Enter}
use Rattle.bytecode_programs.specs.Instructions.{block_flow}
use Rattle.bytecode_programs.specs.Values.{SectionData}

-- how far back an instruction reads
abbrev pub reach_of : SampleInstr → ℕ
reach_of (Past slot k) = k
reach_of i = 0

abbrev pub farthest : List SampleInstr → ℕ
farthest [] = 0
farthest (i ∷ is) = max (reach_of i) (farthest is)

-- the longest path from an instruction at pc that leads so, from those of the later ones
abbrev pub path_of : ℕ → Flow → List ℕ → ℕ
path_of pc Stops later = 1
path_of pc GoesOn later = 1 + slice_index later 0
path_of pc (Jumps target) later = 1 + slice_index later (target - (pc + 1))
path_of pc (Branches target) later =
    1 + max (slice_index later 0) (slice_index later (target - (pc + 1)))

abbrev pub path_with : ℕ → Flow → List ℕ → List ℕ
path_with pc flow later = path_of pc flow later ∷ later

-- the longest paths from the instructions from pc on
abbrev pub paths_from : ℕ → List Flow → List ℕ
paths_from pc [] = []
paths_from pc (flow ∷ flows) = path_with pc flow (paths_from (pc + 1) flows)

-- of code that begins at base
abbrev pub longest_path : ℕ → List Flow → ℕ
longest_path base flows = slice_index (paths_from base flows) 0

-- the sum of the blocks' longest paths
abbrev pub path_sum : ℕ → List (List BlockInstr) → ℕ
path_sum base [] = 0
path_sum base (b ∷ bs) = longest_path base (map block_flow b) + path_sum (base + length b) bs

-- the largest life of a position that the instructions enter, from the lives of the positions from
-- next on
abbrev pub entered_life : ℕ → List ℕ → BlockInstr → ℕ
entered_life next later (Enter q) = slice_index later (q - next)
entered_life next later i = 0

abbrev pub longest_entered : ℕ → List ℕ → List BlockInstr → ℕ
longest_entered next later [] = 0
longest_entered next later (i ∷ is) =
    max (entered_life next later i) (longest_entered next later is)

abbrev pub with_life : ℕ → List BlockInstr → List ℕ → List ℕ
with_life p b later = (1 + longest_entered (p + 1) later b) ∷ later

-- the lives of the positions from p on: each is 1 more than the largest of those that its block
-- enters
abbrev pub lives_from : ℕ → List (List BlockInstr) → List ℕ
lives_from p [] = []
lives_from p (b ∷ bs) = with_life p b (lives_from (p + 1) bs)

-- the life of position p, if it is in the set
abbrev pub life_in : ℕ → ℕ → ℕ → ℕ
life_in set p life = if bit_at set p == 1 then life else 0

-- the largest of the lives of a set, of the positions from p on
abbrev pub most_in : ℕ → ℕ → List ℕ → ℕ
most_in set p [] = 0
most_in set p (l ∷ ls) = max (life_in set p l) (most_in set (p + 1) ls)

-- the largest life in the start set, 1 where that is empty
abbrev pub start_life : SectionData → ℕ
start_life s = max 1 (most_in s.start 0 (lives_from 0 s.blocks))
