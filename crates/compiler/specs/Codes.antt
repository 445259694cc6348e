-- The sample code of expressions.
use Rattle.std.specs.Prelude.{ℕ, zero, suc, ◌+◌, ◌-◌, ◌==◌, max, Bool, true, false, if◌then◌else◌}
use Rattle.std.specs.Prelude.{List, [], ◌∷◌, ◌++◌}
use Rattle.expressions.specs.declared.name.Origin.{Origin}
use Rattle.expressions.specs.declared.name.Name.{Name}
use Rattle.expressions.specs.declared.operator.Arithmetic.{Arithmetic}
use Rattle.expressions.specs.declared.operator.Arithmetic.TheVariants as arithmetic
use Rattle.expressions.specs.declared.operator.Shift.{Shift as Shifting}
use Rattle.expressions.specs.declared.operator.Shift.TheVariants.{Left, Right}
use Rattle.expressions.specs.declared.operator.Comparison.{Comparison}
use Rattle.expressions.specs.declared.operator.Comparison.TheVariants.{Equal, Differs, Less}
use Rattle.expressions.specs.declared.operator.Comparison.TheVariants.{AtMost, Greater, AtLeast}
use Rattle.expressions.specs.declared.operator.Connective.{Connective}
use Rattle.expressions.specs.declared.operator.Connective.TheVariants.{Both, Either}
use Rattle.expressions.specs.declared.operator.Reduction.{Reduction}
use Rattle.expressions.specs.declared.operator.Reduction.TheVariants.{Zero, NonZero, AllOnes}
use Rattle.expressions.specs.declared.operator.Reduction.TheVariants.{NotAllOnes, Odd, Even}
use Rattle.expressions.specs.declared.operator.Reduction.TheVariants.{OneHot, OneHotOrZero}
use Rattle.expressions.specs.declared.operator.Change.{Change}
use Rattle.expressions.specs.declared.operator.Change.TheVariants.{Rose, Fell, Stable, Changed}
use Rattle.expressions.specs.Terms.{Term, constant, named, slice, group, concat, inverse, reduce}
use Rattle.expressions.specs.Terms.{combine, shift, compare, connect, choose, past, change}
use Rattle.expressions.specs.Terms.{width_of}
use Rattle.bytecode_programs.specs.declared.operator.JoinOperator.TheVariants.{And, Or, Xor, Add}
use Rattle.bytecode_programs.specs.declared.operator.JoinOperator.TheVariants.{Sub}
use Rattle.bytecode_programs.specs.declared.operator.CompareOperator.TheVariants.{Eq, Lt}
use Rattle.bytecode_programs.specs.declared.operator.ShiftOperator.TheVariants.{Shl, Shr}
use Rattle.bytecode_programs.specs.declared.operator.ReduceOperator.TheVariants.{RedAnd, RedOr}
use Rattle.bytecode_programs.specs.declared.operator.ReduceOperator.TheVariants.{RedXor}
use Rattle.bytecode_programs.specs.declared.operator.ReduceOperator.TheVariants.{Onehot, Onehot0}
use Rattle.bytecode_programs.specs.declared.sample_instr.SampleInstr.{SampleInstr}
use Rattle.bytecode_programs.specs.declared.sample_instr.SampleInstr.TheVariants.{Push, Load, Past}
use Rattle.bytecode_programs.specs.declared.sample_instr.SampleInstr.TheVariants.{Join}
use Rattle.bytecode_programs.specs.declared.sample_instr.SampleInstr.TheVariants.{Compare, Shift}
use Rattle.bytecode_programs.specs.declared.sample_instr.SampleInstr.TheVariants.{Not}
use Rattle.bytecode_programs.specs.declared.sample_instr.SampleInstr.TheVariants.{Reduce, Concat}
use Rattle.bytecode_programs.specs.declared.sample_instr.SampleInstr.TheVariants.{Zext}
use Rattle.bytecode_programs.specs.declared.sample_instr.SampleInstr.TheVariants.{Slice, Mux}

-- Where names stand: the slot of each place.
abbrev pub Slots : Type 0
Slots = Origin → ℕ → ℕ

abbrev pub slot_of : Slots → Name → ℕ
slot_of at name = at name.origin name.place

-- from a width to one that is no smaller
abbrev pub extension : ℕ → ℕ → List SampleInstr
extension from to = if from == to then [] else Zext to ∷ []

-- from so many bits to one: whether the value is not 0
abbrev pub bit_test : ℕ → List SampleInstr
bit_test w = if w == 1 then [] else Reduce RedOr ∷ []

-- what a slot held so many ticks before
abbrev pub slot_read : ℕ → ℕ → List SampleInstr
slot_read slot zero = Load slot ∷ []
slot_read slot (suc n) = Past slot (suc n) ∷ []

-- Before the first tick a slot holds 0, and so does a part of it. Other code may leave another
-- value where there were fewer than n ticks; slot 0, the constant 1, then tells that there were.
abbrev pub reads_slot : Term → Bool
reads_slot (named name) = true
reads_slot (slice part) = true
reads_slot e = false

abbrev pub guarded : Bool → ℕ → ℕ → List SampleInstr → List SampleInstr
guarded true w n code = code
guarded false w n code = slot_read 0 n ++ code ++ Push w 0 ∷ Mux ∷ []

-- What stands after the operands. Of a comparison and of a change, something also stands between
-- them: of two complements the lesser is that of the greater, so no operand changes its place.
abbrev pub reduction_end : Reduction → List SampleInstr
reduction_end Zero = Reduce RedOr ∷ Not ∷ []
reduction_end NonZero = Reduce RedOr ∷ []
reduction_end AllOnes = Reduce RedAnd ∷ []
reduction_end NotAllOnes = Reduce RedAnd ∷ Not ∷ []
reduction_end Odd = Reduce RedXor ∷ []
reduction_end Even = Reduce RedXor ∷ Not ∷ []
reduction_end OneHot = Reduce Onehot ∷ []
reduction_end OneHotOrZero = Reduce Onehot0 ∷ []

abbrev pub arithmetic_end : Arithmetic → List SampleInstr
arithmetic_end arithmetic.Add = Join Add ∷ []
arithmetic_end arithmetic.Sub = Join Sub ∷ []
arithmetic_end arithmetic.And = Join And ∷ []
arithmetic_end arithmetic.Or = Join Or ∷ []
arithmetic_end arithmetic.Xor = Join Xor ∷ []
arithmetic_end arithmetic.Xnor = Join Xor ∷ Not ∷ []

abbrev pub shift_end : Shifting → List SampleInstr
shift_end Left = Shift Shl ∷ []
shift_end Right = Shift Shr ∷ []

abbrev pub comparison_middle : Comparison → List SampleInstr
comparison_middle Equal = []
comparison_middle Differs = []
comparison_middle Less = []
comparison_middle AtLeast = []
comparison_middle Greater = Not ∷ []
comparison_middle AtMost = Not ∷ []

abbrev pub comparison_end : Comparison → List SampleInstr
comparison_end Equal = Compare Eq ∷ []
comparison_end Differs = Compare Eq ∷ Not ∷ []
comparison_end Less = Compare Lt ∷ []
comparison_end AtLeast = Compare Lt ∷ Not ∷ []
comparison_end Greater = Not ∷ Compare Lt ∷ []
comparison_end AtMost = Not ∷ Compare Lt ∷ Not ∷ []

abbrev pub connective_end : Connective → List SampleInstr
connective_end Both = Join And ∷ []
connective_end Either = Join Or ∷ []

abbrev pub change_middle : Change → List SampleInstr
change_middle Rose = Slice 0 0 ∷ []
change_middle Fell = Slice 0 0 ∷ Not ∷ []
change_middle Stable = []
change_middle Changed = []

abbrev pub change_end : Change → List SampleInstr
change_end Rose = Slice 0 0 ∷ Not ∷ Join And ∷ []
change_end Fell = Slice 0 0 ∷ Join And ∷ []
change_end Stable = Compare Eq ∷ []
change_end Changed = Compare Eq ∷ Not ∷ []

-- The code of an expression in a context of w bits, over the rows of n ticks before. An operand
-- that the context determines has the context's width, both of a comparison the larger of theirs,
-- and any other its own.
abbrev pub code_of : Slots → Term → ℕ → ℕ → List SampleInstr
code_of at (constant bits) w n = Push w bits.value ∷ []
code_of at (named name) w n = slot_read (slot_of at name) n ++ extension name.width w
code_of at (slice part) w n =
    slot_read (slot_of at part.name) n ++ Slice part.high part.low ∷ []
    ++ extension (part.high - part.low + 1) w
code_of at (group e) w n = code_of at e (width_of e) n ++ extension (width_of e) w
code_of at (concat a b) w n =
    code_of at a (width_of a) n ++ code_of at b (width_of b) n ++ Concat ∷ []
    ++ extension (width_of a + width_of b) w
code_of at (inverse e) w n = code_of at e w n ++ Not ∷ []
code_of at (reduce op e) w n =
    code_of at e (width_of e) n ++ reduction_end op ++ extension 1 w
code_of at (combine op a b) w n =
    code_of at a w n ++ code_of at b w n ++ arithmetic_end op
code_of at (shift op a b) w n =
    code_of at a w n ++ code_of at b (width_of b) n ++ shift_end op
code_of at (compare op a b) w n =
    code_of at a (max (width_of a) (width_of b)) n ++ comparison_middle op
    ++ code_of at b (max (width_of a) (width_of b)) n ++ comparison_end op ++ extension 1 w
code_of at (connect op a b) w n =
    code_of at a (width_of a) n ++ bit_test (width_of a)
    ++ code_of at b (width_of b) n ++ bit_test (width_of b) ++ connective_end op ++ extension 1 w
code_of at (choose c a b) w n =
    code_of at c (width_of c) n ++ bit_test (width_of c)
    ++ code_of at a w n ++ code_of at b w n ++ Mux ∷ []
code_of at (past e ticks) w n =
    guarded (reads_slot e) (width_of e) (n + ticks) (code_of at e (width_of e) (n + ticks))
    ++ extension (width_of e) w
code_of at (change op e) w n =
    code_of at e (width_of e) n ++ change_middle op
    ++ guarded (reads_slot e) (width_of e) (n + 1) (code_of at e (width_of e) (n + 1))
    ++ change_end op ++ extension 1 w

-- How many operands the code puts on the stack at once.
abbrev pub guarded_need : Bool → ℕ → ℕ
guarded_need true d = d
guarded_need false d = max 3 (1 + d)

abbrev pub need : Term → ℕ
need (constant bits) = 1
need (named name) = 1
need (slice part) = 1
need (group e) = need e
need (concat a b) = max (need a) (1 + need b)
need (inverse e) = need e
need (reduce op e) = need e
need (combine op a b) = max (need a) (1 + need b)
need (shift op a b) = max (need a) (1 + need b)
need (compare op a b) = max (need a) (1 + need b)
need (connect op a b) = max (need a) (1 + need b)
need (choose c a b) = max (need c) (max (1 + need a) (2 + need b))
need (past e ticks) = guarded_need (reads_slot e) (need e)
need (change op e) = max (need e) (1 + guarded_need (reads_slot e) (need e))

-- How many ticks back it reads.
abbrev pub reach : Term → ℕ
reach (constant bits) = 0
reach (named name) = 0
reach (slice part) = 0
reach (group e) = reach e
reach (concat a b) = max (reach a) (reach b)
reach (inverse e) = reach e
reach (reduce op e) = reach e
reach (combine op a b) = max (reach a) (reach b)
reach (shift op a b) = max (reach a) (reach b)
reach (compare op a b) = max (reach a) (reach b)
reach (connect op a b) = max (reach a) (reach b)
reach (choose c a b) = max (reach c) (max (reach a) (reach b))
reach (past e ticks) = ticks + reach e
reach (change op e) = 1 + reach e
