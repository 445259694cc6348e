-- The code of what a chain has after its first operand. Contracts of public functions name no
-- chain.
use Rattle.std.specs.Prelude.{ℕ, max, List, [], ◌∷◌, ◌++◌}
use Rattle.expressions.specs.declared.operator.Arithmetic.{Arithmetic}
use Rattle.expressions.specs.declared.operator.Shift.{Shift}
use Rattle.expressions.specs.declared.operator.Comparison.{Comparison}
use Rattle.expressions.specs.declared.operator.Connective.{Connective}
use Rattle.expressions.specs.Terms.{width_of}
use Rattle.expressions.specs.Nodes.{Seen}
use Rattle.bytecode_programs.specs.declared.sample_instr.SampleInstr.{SampleInstr}
use Rattle.bytecode_programs.specs.declared.sample_instr.SampleInstr.TheVariants.{Concat}
use Rattle.compiler.specs.Codes.{Slots, extension, bit_test, arithmetic_end, shift_end}
use Rattle.compiler.specs.Codes.{comparison_middle, comparison_end, connective_end}
use Rattle.compiler.specs.Codes.{code_of}
use Rattle.compiler.specs.Codes.{reach}

-- sums at the width of the context
abbrev pub sums_code : Slots → ℕ → ℕ → List (Arithmetic × Seen) → List SampleInstr
sums_code at w n [] = []
sums_code at w n (s ∷ rest) =
    code_of at s.1.term w n ++ arithmetic_end s.0 ++ sums_code at w n rest

-- shifts by counts at their own widths
abbrev pub shifts_code : Slots → ℕ → List (Shift × Seen) → List SampleInstr
shifts_code at n [] = []
shifts_code at n (s ∷ rest) =
    code_of at s.1.term (width_of s.1.term) n ++ shift_end s.0 ++ shifts_code at n rest

-- comparisons at the larger width, of which the value so far has w bits at first and then one
abbrev pub compares_code : Slots → ℕ → ℕ → List (Comparison × Seen) → List SampleInstr
compares_code at w n [] = []
compares_code at w n (s ∷ rest) =
    extension w (max w (width_of s.1.term)) ++ comparison_middle s.0
    ++ code_of at s.1.term (max w (width_of s.1.term)) n ++ comparison_end s.0
    ++ compares_code at 1 n rest

-- connectives of operands at their own widths, of which the value so far has w bits and then one
abbrev pub connects_code : Slots → ℕ → ℕ → List (Connective × Seen) → List SampleInstr
connects_code at w n [] = []
connects_code at w n (s ∷ rest) =
    bit_test w ++ code_of at s.1.term (width_of s.1.term) n ++ bit_test (width_of s.1.term)
    ++ connective_end s.0 ++ connects_code at 1 n rest

-- parts at their own widths
abbrev pub parts_code : Slots → ℕ → List Seen → List SampleInstr
parts_code at n [] = []
parts_code at n (part ∷ rest) =
    code_of at part.term (width_of part.term) n ++ Concat ∷ [] ++ parts_code at n rest

-- how far back the operands read
abbrev pub chain_reach : {O : Type 0} → List (O × Seen) → ℕ
chain_reach [] = 0
chain_reach (s ∷ rest) = max (reach s.1.term) (chain_reach rest)

abbrev pub parts_reach : List Seen → ℕ
parts_reach [] = 0
parts_reach (part ∷ rest) = max (reach part.term) (parts_reach rest)
