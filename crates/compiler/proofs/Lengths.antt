-- Code without changes is short.
use Rattle.std.proofs.Common.{◌≡◌, ℕ, zero, suc, ◌+◌, ◌-◌, ◌*◌, ◌≤◌, max, Bool, true, false, List}
use Rattle.std.proofs.Common.{[]}
use Rattle.std.proofs.Common.{◌∷◌, ◌++◌, length, refl, arith, length-append}
use Rattle.std.specs.Prelude.{◌==◌, if◌then◌else◌, sum_by}
use Rattle.std.specs.List.{AllByRecursion}
use Rattle.std.proofs.lemmas.List.Sums.{sum_by-cons}
use Rattle.expressions.specs.declared.operator.Arithmetic.{Arithmetic}
use Rattle.expressions.specs.declared.operator.Arithmetic.TheVariants as arithmetic
use Rattle.expressions.specs.declared.operator.Shift.{Shift as Shifting}
use Rattle.expressions.specs.declared.operator.Shift.TheVariants.{Left, Right}
use Rattle.expressions.specs.declared.operator.Comparison.{Comparison}
use Rattle.expressions.specs.declared.operator.Comparison.TheVariants.{Equal, Differs, Less}
use Rattle.expressions.specs.declared.operator.Comparison.TheVariants.{AtMost, Greater, AtLeast}
use Rattle.expressions.specs.declared.operator.Connective.{Connective}
use Rattle.expressions.specs.declared.operator.Connective.TheVariants.{Both, Either}
use Rattle.expressions.specs.declared.operator.Reduction.{Reduction}
use Rattle.expressions.specs.declared.operator.Reduction.TheVariants.{Zero, NonZero, AllOnes}
use Rattle.expressions.specs.declared.operator.Reduction.TheVariants.{NotAllOnes, Odd, Even}
use Rattle.expressions.specs.declared.operator.Reduction.TheVariants.{OneHot, OneHotOrZero}
use Rattle.expressions.specs.Terms.{Term, constant, named, slice, group, concat, inverse, reduce}
use Rattle.expressions.specs.Terms.{combine, shift, compare, connect, choose, past, change}
use Rattle.expressions.specs.Terms.{width_of}
use Rattle.bytecode_programs.specs.declared.operator.ReduceOperator.TheVariants.{RedOr}
use Rattle.bytecode_programs.specs.declared.sample_instr.SampleInstr.{SampleInstr}
use Rattle.bytecode_programs.specs.declared.sample_instr.SampleInstr.TheVariants.{Push, Reduce, Zext, Mux}
use Rattle.compiler.specs.Codes.{Slots, slot_of, extension, bit_test, slot_read, reads_slot}
use Rattle.compiler.specs.Codes.{guarded, reduction_end, arithmetic_end, shift_end}
use Rattle.compiler.specs.Codes.{comparison_middle, comparison_end, connective_end, code_of}
use Rattle.compiler.specs.Samples.{atoms_code}
use Rattle.compiler.specs.Laws.{EachPart, size, IsNoChange, SamplesAreShort}

none-or-one : (b : Bool) (i : SampleInstr) → length (if b then [] else i ∷ []) ≤ 1
none-or-one true i = omega arith
none-or-one false i = omega arith

extension-long : (from to : ℕ) → length (extension from to) ≤ 1
extension-long from to = none-or-one (from == to) (Zext to)

test-long : (w : ℕ) → length (bit_test w) ≤ 1
test-long w = none-or-one (w == 1) (Reduce RedOr)

read-long : (slot n : ℕ) → length (slot_read slot n) ≡ 1
read-long slot zero = refl
read-long slot (suc n) = refl

guarded-long :
    (b : Bool) (w n : ℕ) (code : List SampleInstr) → length (guarded b w n code) ≤ length code + 3
guarded-long true w n code = omega arith
guarded-long false w n code =
    omega (
      arith,
      length-append (slot_read 0 n ++ code) (Push w 0 ∷ Mux ∷ []),
      length-append (slot_read 0 n) code,
      read-long 0 n,
    )

reduction-long : (op : Reduction) → length (reduction_end op) ≤ 2
reduction-long Zero = omega arith
reduction-long NonZero = omega arith
reduction-long AllOnes = omega arith
reduction-long NotAllOnes = omega arith
reduction-long Odd = omega arith
reduction-long Even = omega arith
reduction-long OneHot = omega arith
reduction-long OneHotOrZero = omega arith

arithmetic-long : (op : Arithmetic) → length (arithmetic_end op) ≤ 2
arithmetic-long arithmetic.Add = omega arith
arithmetic-long arithmetic.Sub = omega arith
arithmetic-long arithmetic.And = omega arith
arithmetic-long arithmetic.Or = omega arith
arithmetic-long arithmetic.Xor = omega arith
arithmetic-long arithmetic.Xnor = omega arith

shift-long : (op : Shifting) → length (shift_end op) ≤ 1
shift-long Left = omega arith
shift-long Right = omega arith

middle-long : (op : Comparison) → length (comparison_middle op) ≤ 1
middle-long Equal = omega arith
middle-long Differs = omega arith
middle-long Less = omega arith
middle-long AtLeast = omega arith
middle-long Greater = omega arith
middle-long AtMost = omega arith

comparison-long : (op : Comparison) → length (comparison_end op) ≤ 3
comparison-long Equal = omega arith
comparison-long Differs = omega arith
comparison-long Less = omega arith
comparison-long AtLeast = omega arith
comparison-long Greater = omega arith
comparison-long AtMost = omega arith

connective-long : (op : Connective) → length (connective_end op) ≤ 1
connective-long Both = omega arith
connective-long Either = omega arith

abbrev append-long : (a b : List SampleInstr) → length (a ++ b) ≡ length a + length b
append-long a b = length-append a b

module _ (at : Slots) where
  pub code-short :
      (e : Term) (w n : ℕ) → EachPart IsNoChange e → length (code_of at e w n) ≤ 5 * size e
  code-short (constant bits) w n h = omega arith
  code-short (named name) w n h =
      omega (arith, append-long, extension-long name.width w, read-long (slot_of at name) n)
  code-short (slice part) w n h =
      omega (
        arith,
        append-long,
        extension-long (part.high - part.low + 1) w,
        read-long (slot_of at part.name) n,
      )
  code-short (group e) w n h =
      omega (arith, append-long, extension-long (width_of e) w, code-short e (width_of e) n h.1)
  code-short (concat a b) w n h =
      omega (
        arith,
        append-long,
        extension-long (width_of a + width_of b) w,
        code-short a (width_of a) n h.1,
        code-short b (width_of b) n h.2,
      )
  code-short (inverse e) w n h = omega (arith, append-long, code-short e w n h.1)
  code-short (reduce op e) w n h =
      omega (
        arith,
        append-long,
        reduction-long op,
        extension-long 1 w,
        code-short e (width_of e) n h.1,
      )
  code-short (combine op a b) w n h =
      omega (arith, append-long, arithmetic-long op, code-short a w n h.1, code-short b w n h.2)
  code-short (shift op a b) w n h =
      omega (
        arith,
        append-long,
        shift-long op,
        code-short a w n h.1,
        code-short b (width_of b) n h.2,
      )
  code-short (compare op a b) w n h =
      let m : ℕ = max (width_of a) (width_of b) in
      omega (
        arith,
        append-long,
        middle-long op,
        comparison-long op,
        extension-long 1 w,
        code-short a m n h.1,
        code-short b m n h.2,
      )
  code-short (connect op a b) w n h =
      omega (
        arith,
        append-long,
        test-long (width_of a),
        test-long (width_of b),
        connective-long op,
        extension-long 1 w,
        code-short a (width_of a) n h.1,
        code-short b (width_of b) n h.2,
      )
  code-short (choose c a b) w n h =
      omega (
        arith,
        append-long,
        test-long (width_of c),
        code-short c (width_of c) n h.1,
        code-short a w n h.2,
        code-short b w n h.3,
      )
  code-short (past e ticks) w n h =
      let code : List SampleInstr = code_of at e (width_of e) (n + ticks) in
      omega (
        arith,
        append-long,
        extension-long (width_of e) w,
        guarded-long (reads_slot e) (width_of e) (n + ticks) code,
        code-short e (width_of e) (n + ticks) h.1,
      )
  code-short (change op e) w n h = absurd h.0

  atoms-short :
      (es : List Term) (i : ℕ) → AllByRecursion (EachPart IsNoChange) es →
      length (atoms_code at i es) ≤ 5 * sum_by size es + 2 * length es
  atoms-short [] i h = omega arith
  atoms-short (e ∷ es) i h =
      omega (
        arith,
        append-long,
        test-long (width_of e),
        code-short e (width_of e) 0 h.0,
        sum_by-cons size e es,
        atoms-short es (i + 1) h.1,
      )

pub samples-are-short : SamplesAreShort
samples-are-short at es h = omega (arith, append-long, atoms-short at es 0 h)
