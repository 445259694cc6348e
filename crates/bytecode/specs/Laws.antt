-- Laws of spellings.
use Rattle.std.specs.Prelude.{◌≡◌, ℕ, Bool, true, false, ◌++◌, List, IsTrue}
use Rattle.bytecode_programs.specs.Values.{ProgramData, fits_program_in}
use Rattle.bytecode.specs.Spelling.{spelling_in}

-- No spelling begins another, of any version: where two wholes are the same, so are the versions,
-- the programs and what stands after.
abbrev pub SpellingsArePrefixFree : Type 0
SpellingsArePrefixFree =
    (first other : Bool) (x y : ProgramData) (a b : List ℕ) → IsTrue (fits_program_in first x)
    → IsTrue (fits_program_in other y) → spelling_in first x ++ a ≡ spelling_in other y ++ b
    → (first ≡ other) × (x ≡ y) × (a ≡ b)

-- Two programs with one spelling are equal.
abbrev pub SpellingsAreOfOneProgram : Type 0
SpellingsAreOfOneProgram =
    (first other : Bool) (x y : ProgramData) → IsTrue (fits_program_in first x)
    → IsTrue (fits_program_in other y) → spelling_in first x ≡ spelling_in other y → x ≡ y

-- What version 1 can spell, version 2 can.
abbrev pub SpellsMore : Type 0
SpellsMore = (x : ProgramData) → IsTrue (fits_program_in false x) → IsTrue (fits_program_in true x)
