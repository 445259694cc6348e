-- What stands after operands makes of them what the operators do.
use Rattle.std.proofs.Common.{◌≡◌, ℕ, zero, suc, ◌+◌, ◌-◌, ◌/◌, ◌%◌, ◌^◌, ◌<◌}
use Rattle.std.proofs.Common.{◌≤◌, Bool, true, false, ◌&&◌, List, [], ◌∷◌, ◌++◌, refl}
use Rattle.std.proofs.Common.{ap, subst, arith}
use Rattle.std.specs.Prelude.{nat_lt, ◌==◌, not, bit_and, bit_or, bit_xor}
use Rattle.std.specs.Prelude.{count_ones}
use Rattle.std.proofs.Math.Nat.{div-one}
use Rattle.signals.specs.Tests.{one_if}
use Rattle.expressions.specs.declared.operator.Arithmetic.{Arithmetic}
use Rattle.expressions.specs.declared.operator.Arithmetic.TheVariants as arithmetic_of
use Rattle.expressions.specs.declared.operator.Shift.{Shift as Shifting}
use Rattle.expressions.specs.declared.operator.Shift.TheVariants.{Left, Right}
use Rattle.expressions.specs.declared.operator.Comparison.{Comparison}
use Rattle.expressions.specs.declared.operator.Comparison.TheVariants.{Equal, Differs, Less}
use Rattle.expressions.specs.declared.operator.Comparison.TheVariants.{AtMost, Greater, AtLeast}
use Rattle.expressions.specs.declared.operator.Connective.{Connective}
use Rattle.expressions.specs.declared.operator.Connective.TheVariants.{Both, Either}
use Rattle.expressions.specs.declared.operator.Reduction.{Reduction}
use Rattle.expressions.specs.declared.operator.Reduction.TheVariants.{Zero, NonZero, AllOnes}
use Rattle.expressions.specs.declared.operator.Reduction.TheVariants.{NotAllOnes, Odd, Even}
use Rattle.expressions.specs.declared.operator.Reduction.TheVariants.{OneHot, OneHotOrZero}
use Rattle.expressions.specs.declared.operator.Change.{Change}
use Rattle.expressions.specs.declared.operator.Change.TheVariants.{Rose, Fell, Stable, Changed}
use Rattle.expressions.specs.Operators.{complement, arithmetic, shift_value, reduction_value}
use Rattle.expressions.specs.Operators.{change_of}
use Rattle.bytecode_programs.specs.declared.limits.Limits.{Limits}
use Rattle.bytecode_programs.specs.declared.operator.JoinOperator.TheVariants.{And, Or, Xor, Add, Sub}
use Rattle.bytecode_programs.specs.declared.operator.CompareOperator.TheVariants.{Eq, Lt}
use Rattle.bytecode_programs.specs.declared.operator.ShiftOperator.TheVariants.{Shl, Shr}
use Rattle.bytecode_programs.specs.declared.operator.ReduceOperator.TheVariants.{RedAnd, RedOr, RedXor}
use Rattle.bytecode_programs.specs.declared.operator.ReduceOperator.TheVariants.{Onehot, Onehot0}
use Rattle.bytecode_programs.specs.declared.sample_instr.SampleInstr.{SampleInstr}
use Rattle.bytecode_programs.specs.declared.sample_instr.SampleInstr.TheVariants.{Join, Compare, Not}
use Rattle.bytecode_programs.specs.declared.sample_instr.SampleInstr.TheVariants.{Reduce, Slice}
use Rattle.bytecode_programs.specs.Instructions.{FrameData}
use Rattle.machine_checked.specs.Samples.{Operand, operand}
use Rattle.compiler.specs.Codes.{reduction_end, arithmetic_end, shift_end, connective_end}
use Rattle.compiler.specs.Codes.{comparison_middle, comparison_end, change_middle}
use Rattle.compiler.specs.Codes.{change_end}
use Rattle.compiler.proofs.Steps.{Moves, moves-room, moves-then, moves-none, moves-above}
use Rattle.compiler.proofs.Instructions.{not-moves, reduce-moves, slice-moves, join-moves}
use Rattle.compiler.proofs.Instructions.{compare-moves, shift-moves}

-- a bit is 0 or 1
pub bit-cases : (P : ℕ → Type 0) → P 0 → P 1 → (p : ℕ) → p < 2 → P p
bit-cases P a b zero h = a
bit-cases P a b (suc zero) h = b
bit-cases P a b (suc (suc p)) h = absurd (omega (arith, h))

pub not-one : (b : Bool) → 2 ^ 1 - 1 - one_if b ≡ one_if (not b)
not-one true = refl
not-one false = refl

not-not : (b : Bool) → not (not b) ≡ b
not-not true = refl
not-not false = refl

rising :
    (p q : ℕ) → p < 2 → q < 2 → bit_and p (2 ^ 1 - 1 - q) ≡ one_if ((p == 1) && (q == 0))
rising p q g h =
    bit-cases (λ p. bit_and p (2 ^ 1 - 1 - q) ≡ one_if ((p == 1) && (q == 0)))
    (bit-cases (λ q. bit_and 0 (2 ^ 1 - 1 - q) ≡ one_if ((0 == 1) && (q == 0))) refl refl q h)
    (bit-cases (λ q. bit_and 1 (2 ^ 1 - 1 - q) ≡ one_if ((1 == 1) && (q == 0))) refl refl q h) p g

falling :
    (p q : ℕ) → p < 2 → q < 2 → bit_and (2 ^ 1 - 1 - p) q ≡ one_if ((p == 0) && (q == 1))
falling p q g h =
    bit-cases (λ p. bit_and (2 ^ 1 - 1 - p) q ≡ one_if ((p == 0) && (q == 1)))
    (bit-cases (λ q. bit_and (2 ^ 1 - 1 - 0) q ≡ one_if ((0 == 0) && (q == 1))) refl refl q h)
    (bit-cases (λ q. bit_and (2 ^ 1 - 1 - 1) q ≡ one_if ((1 == 0) && (q == 1))) refl refl q h) p g

-- What a comparison and a connective leave where they are not the values of their operators.
abbrev pub raw_compared : Comparison → ℕ → ℕ → ℕ → ℕ
raw_compared Equal w a b = one_if (a == b)
raw_compared Differs w a b = one_if (not (a == b))
raw_compared Less w a b = one_if (nat_lt a b)
raw_compared AtLeast w a b = one_if (not (nat_lt a b))
raw_compared Greater w a b = one_if (nat_lt (complement w a) (complement w b))
raw_compared AtMost w a b = one_if (not (nat_lt (complement w a) (complement w b)))

abbrev pub raw_connected : Connective → ℕ → ℕ → ℕ
raw_connected Both a b = bit_and a b
raw_connected Either a b = bit_or a b

-- what stands after the left operand of a comparison leaves
abbrev pub turned : Comparison → ℕ → ℕ → ℕ
turned Equal w a = a
turned Differs w a = a
turned Less w a = a
turned AtLeast w a = a
turned Greater w a = complement w a
turned AtMost w a = complement w a

-- what stands after the left operand of a change leaves
abbrev pub low_width : Change → ℕ → ℕ
low_width Rose w = 1
low_width Fell w = 1
low_width Stable w = w
low_width Changed w = w

abbrev pub low : Change → ℕ → ℕ
low Rose x = x % 2
low Fell x = 2 ^ 1 - 1 - x % 2
low Stable x = x
low Changed x = x

module _ (f : FrameData) (d : Limits) (s : ℕ → ℕ → ℕ) where
  -- a value that is the same
  pub moves-to :
      (a : List SampleInstr) (pre : List Operand) (w v v' n : ℕ) → v ≡ v' →
      Moves f d s a pre (operand w v ∷ []) n → Moves f d s a pre (operand w v' ∷ []) n
  moves-to a pre w v v' n e h = subst (λ x. Moves f d s a pre (operand w x ∷ []) n) e h

  -- a bit, turned
  negated :
      (a : List SampleInstr) (pre : List Operand) (b : Bool) →
      Moves f d s a pre (operand 1 (one_if b) ∷ []) 1 →
      Moves f d s (a ++ Not ∷ []) pre (operand 1 (one_if (not b)) ∷ []) 1
  negated a pre b h =
      moves-to (a ++ Not ∷ []) pre 1 (2 ^ 1 - 1 - one_if b) (one_if (not b)) 1 (not-one b)
      (moves-then f d s a (Not ∷ []) pre (operand 1 (one_if b) ∷ [])
      (operand 1 (2 ^ 1 - 1 - one_if b) ∷ []) 1 1 h (not-moves f d s 1 (one_if b)))

  abbrev Reduces : Reduction → ℕ → ℕ → Type 0
  Reduces op w v =
      Moves f d s (reduction_end op) (operand w v ∷ []) (operand 1 (reduction_value op w v) ∷ []) 1

  pub reduction-moves : (op : Reduction) (w v : ℕ) → Reduces op w v
  reduction-moves Zero w v =
      moves-to (Reduce RedOr ∷ Not ∷ []) (operand w v ∷ []) 1 (one_if (not (not (v == 0))))
      (one_if (v == 0)) 1 (ap one_if (not-not (v == 0)))
      (negated (Reduce RedOr ∷ []) (operand w v ∷ []) (not (v == 0)) (reduce-moves f d s RedOr w v))
  reduction-moves NonZero w v = reduce-moves f d s RedOr w v
  reduction-moves AllOnes w v = reduce-moves f d s RedAnd w v
  reduction-moves NotAllOnes w v =
      negated (Reduce RedAnd ∷ []) (operand w v ∷ []) (v + 1 == 2 ^ w) (reduce-moves f d s RedAnd w
      v)
  reduction-moves Odd w v = reduce-moves f d s RedXor w v
  reduction-moves Even w v =
      moves-then f d s (Reduce RedXor ∷ []) (Not ∷ []) (operand w v ∷ [])
      (operand 1 (count_ones v % 2) ∷ []) (operand 1 (reduction_value Even w v) ∷ []) 1 1
      (reduce-moves f d s RedXor w v) (not-moves f d s 1 (count_ones v % 2))
  reduction-moves OneHot w v = reduce-moves f d s Onehot w v
  reduction-moves OneHotOrZero w v = reduce-moves f d s Onehot0 w v

  pub arithmetic-moves :
      (op : Arithmetic) (w x y : ℕ) →
      Moves f d s (arithmetic_end op) (operand w y ∷ operand w x ∷ [])
      (operand w (arithmetic op w x y) ∷ []) 1
  arithmetic-moves arithmetic_of.Add w x y = join-moves f d s Add w x y
  arithmetic-moves arithmetic_of.Sub w x y = join-moves f d s Sub w x y
  arithmetic-moves arithmetic_of.And w x y = join-moves f d s And w x y
  arithmetic-moves arithmetic_of.Or w x y = join-moves f d s Or w x y
  arithmetic-moves arithmetic_of.Xor w x y = join-moves f d s Xor w x y
  arithmetic-moves arithmetic_of.Xnor w x y =
      moves-then f d s (Join Xor ∷ []) (Not ∷ []) (operand w y ∷ operand w x ∷ [])
      (operand w (bit_xor x y) ∷ []) (operand w (complement w (bit_xor x y)) ∷ []) 1 1
      (join-moves f d s Xor w x y) (not-moves f d s w (bit_xor x y))

  pub shift-end-moves :
      (op : Shifting) (w x u y : ℕ) →
      Moves f d s (shift_end op) (operand u y ∷ operand w x ∷ [])
      (operand w (shift_value op w x y) ∷ []) 1
  shift-end-moves Left w x u y = shift-moves f d s Shl w x u y
  shift-end-moves Right w x u y = shift-moves f d s Shr w x u y

  pub connective-moves :
      (op : Connective) (x y : ℕ) →
      Moves f d s (connective_end op) (operand 1 y ∷ operand 1 x ∷ [])
      (operand 1 (raw_connected op x y) ∷ []) 1
  connective-moves Both x y = join-moves f d s And 1 x y
  connective-moves Either x y = join-moves f d s Or 1 x y

  pub middle-moves :
      (op : Comparison) (w x : ℕ) →
      Moves f d s (comparison_middle op) (operand w x ∷ []) (operand w (turned op w x) ∷ []) 1
  middle-moves Equal w x = moves-none f d s (operand w x ∷ []) 1
  middle-moves Differs w x = moves-none f d s (operand w x ∷ []) 1
  middle-moves Less w x = moves-none f d s (operand w x ∷ []) 1
  middle-moves AtLeast w x = moves-none f d s (operand w x ∷ []) 1
  middle-moves Greater w x = not-moves f d s w x
  middle-moves AtMost w x = not-moves f d s w x

  abbrev Compares : Comparison → ℕ → ℕ → ℕ → ℕ → Type 0
  Compares op w x y room =
      Moves f d s (comparison_end op) (operand w y ∷ operand w (turned op w x) ∷ [])
      (operand 1 (raw_compared op w x y) ∷ []) room

  comparison-greater : (w x y : ℕ) → Compares Greater w x y 2
  comparison-greater w x y =
      moves-then f d s (Not ∷ []) (Compare Lt ∷ []) (operand w y ∷ operand w (complement w x) ∷ [])
      (operand w (complement w y) ∷ operand w (complement w x) ∷ [])
      (operand 1 (raw_compared Greater w x y) ∷ []) 2 1 (moves-above f d s (Not ∷ []) (operand w
      (complement w x)) (operand w y)
      (operand w (complement w y)) 1 (not-moves f d s w y))
      (compare-moves f d s Lt w (complement w x) (complement w y))

  wider :
      (a : List SampleInstr) (pre post : List Operand) → Moves f d s a pre post 1 →
      Moves f d s a pre post 2
  wider a pre post h = moves-room f d s a pre post 1 2 (omega arith) h

  negated-two :
      (a : List SampleInstr) (pre : List Operand) (b : Bool) →
      Moves f d s a pre (operand 1 (one_if b) ∷ []) 2 →
      Moves f d s (a ++ Not ∷ []) pre (operand 1 (one_if (not b)) ∷ []) 2
  negated-two a pre b h =
      moves-to (a ++ Not ∷ []) pre 1 (2 ^ 1 - 1 - one_if b) (one_if (not b)) 2 (not-one b)
      (moves-then f d s a (Not ∷ []) pre (operand 1 (one_if b) ∷ [])
      (operand 1 (2 ^ 1 - 1 - one_if b) ∷ []) 2 1 h (not-moves f d s 1 (one_if b)))

  comparison-equal : (w x y : ℕ) → Compares Equal w x y 2
  comparison-equal w x y =
      wider (Compare Eq ∷ []) (operand w y ∷ operand w x ∷ []) (operand 1 (one_if (x == y)) ∷ [])
      (compare-moves f d s Eq w x y)

  comparison-less : (w x y : ℕ) → Compares Less w x y 2
  comparison-less w x y =
      wider (Compare Lt ∷ []) (operand w y ∷ operand w x ∷ [])
      (operand 1 (one_if (nat_lt x y)) ∷ []) (compare-moves f d s Lt w x y)

  pub comparison-moves : (op : Comparison) (w x y : ℕ) → Compares op w x y 2
  comparison-moves Equal w x y = comparison-equal w x y
  comparison-moves Less w x y = comparison-less w x y
  comparison-moves Differs w x y =
      negated-two (Compare Eq ∷ []) (operand w y ∷ operand w x ∷ []) (x == y)
      (comparison-equal w x y)
  comparison-moves AtLeast w x y =
      negated-two (Compare Lt ∷ []) (operand w y ∷ operand w x ∷ []) (nat_lt x y)
      (comparison-less w x y)
  comparison-moves Greater w x y = comparison-greater w x y
  comparison-moves AtMost w x y =
      negated-two (Not ∷ Compare Lt ∷ []) (operand w y ∷ operand w (complement w x) ∷ [])
      (nat_lt (complement w x) (complement w y)) (comparison-greater w x y)

  low-moves :
      (w x : ℕ) → 1 ≤ w → Moves f d s (Slice 0 0 ∷ []) (operand w x ∷ []) (operand 1 (x % 2) ∷ []) 1
  low-moves w x some =
      moves-to (Slice 0 0 ∷ []) (operand w x ∷ []) 1 (x / 2 ^ 0 % 2 ^ 1) (x % 2) 1
      (ap (λ n. n % 2) (div-one x)) (slice-moves f d s w x 0 0 (omega (arith, some)))

  pub change-middle-moves :
      (op : Change) (w x : ℕ) → 1 ≤ w →
      Moves f d s (change_middle op) (operand w x ∷ []) (operand (low_width op w) (low op x) ∷ []) 1
  change-middle-moves Rose w x some = low-moves w x some
  change-middle-moves Fell w x some =
      moves-then f d s (Slice 0 0 ∷ []) (Not ∷ []) (operand w x ∷ []) (operand 1 (x % 2) ∷ [])
      (operand 1 (2 ^ 1 - 1 - x % 2) ∷ []) 1 1 (low-moves w x some) (not-moves f d s 1 (x % 2))
  change-middle-moves Stable w x some = moves-none f d s (operand w x ∷ []) 1
  change-middle-moves Changed w x some = moves-none f d s (operand w x ∷ []) 1

  abbrev Changes : Change → ℕ → ℕ → ℕ → Type 0
  Changes op w x y =
      Moves f d s (change_end op) (operand w y ∷ operand (low_width op w) (low op x) ∷ [])
      (operand 1 (change_of op x y) ∷ []) 2

  pub change-moves : (op : Change) (w x y : ℕ) → 1 ≤ w → Changes op w x y
  change-moves Rose w x y some =
      let p : Operand = operand 1 (x % 2) in
      let q : ℕ = 2 ^ 1 - 1 - y % 2 in
      let turn : Moves f d s (Slice 0 0 ∷ Not ∷ []) (operand w y ∷ p ∷ []) (operand 1 q ∷ p ∷ []) 2
      =
      moves-then f d s (Slice 0 0 ∷ []) (Not ∷ []) (operand w y ∷ p ∷ [])
      (operand 1 (y % 2) ∷ p ∷ []) (operand 1 q ∷ p ∷ []) 2 2 (moves-above f d s (Slice 0 0 ∷ []) p
      (operand w y) (operand 1 (y % 2)) 1 (low-moves w y some))
      (moves-above f d s (Not ∷ []) p (operand 1 (y % 2)) (operand 1 q) 1 (not-moves f d s 1 (y %
      2))) in
      moves-to (Slice 0 0 ∷ Not ∷ Join And ∷ []) (operand w y ∷ p ∷ []) 1 (bit_and (x % 2) q)
      (change_of Rose x y) 2 (rising (x % 2) (y % 2) (omega arith) (omega arith))
      (moves-then f d s (Slice 0 0 ∷ Not ∷ []) (Join And ∷ []) (operand w y ∷ p ∷ [])
      (operand 1 q ∷ p ∷ []) (operand 1 (bit_and (x % 2) q) ∷ []) 2 1 turn
      (join-moves f d s And 1 (x % 2) q))
  change-moves Fell w x y some =
      let q : ℕ = 2 ^ 1 - 1 - x % 2 in
      moves-to (Slice 0 0 ∷ Join And ∷ []) (operand w y ∷ operand 1 q ∷ []) 1
      (bit_and q (y % 2)) (change_of Fell x y) 2
      (falling (x % 2) (y % 2) (omega arith) (omega arith))
      (moves-then f d s (Slice 0 0 ∷ []) (Join And ∷ []) (operand w y ∷ operand 1 q ∷ [])
      (operand 1 (y % 2) ∷ operand 1 q ∷ []) (operand 1 (bit_and q (y % 2)) ∷ []) 2 1
      (moves-above f d s (Slice 0 0 ∷ []) (operand 1 q) (operand w y) (operand 1 (y % 2)) 1
      (low-moves w y some)) (join-moves f d s And 1 q (y % 2)))
  change-moves Stable w x y some =
      wider (Compare Eq ∷ []) (operand w y ∷ operand w x ∷ []) (operand 1 (one_if (x == y)) ∷ [])
      (compare-moves f d s Eq w x y)
  change-moves Changed w x y some =
      negated-two (Compare Eq ∷ []) (operand w y ∷ operand w x ∷ []) (x == y)
      (wider (Compare Eq ∷ []) (operand w y ∷ operand w x ∷ [])
      (operand 1 (one_if (x == y)) ∷ []) (compare-moves f d s Eq w x y))
