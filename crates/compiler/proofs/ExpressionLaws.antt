-- What the code of an expression leaves over any rows, with no word of ticks.
use Rattle.std.proofs.Common.{◌≡◌, ℕ, ◌+◌, ◌-◌, ◌*◌, ◌/◌, ◌%◌, ◌^◌, ◌≤◌, max, Bool, true}
use Rattle.std.proofs.Common.{false, List, [], ◌∷◌, ◌++◌, Some, arith}
use Rattle.std.specs.Prelude.{◌==◌, if◌then◌else◌, slice_get}
use Rattle.expressions.specs.Operators.{complement, arithmetic, shift_value, reduction_value}
use Rattle.expressions.specs.Operators.{change_of}
use Rattle.expressions.specs.Terms.{Term, constant, named, slice, group, concat, inverse, reduce}
use Rattle.expressions.specs.Terms.{combine, shift, compare, connect, choose, past, change}
use Rattle.expressions.specs.Terms.{width_of}
use Rattle.bytecode_programs.specs.declared.limits.Limits.{Limits}
use Rattle.bytecode_programs.specs.declared.sample_instr.SampleInstr.{SampleInstr}
use Rattle.bytecode_programs.specs.declared.sample_instr.SampleInstr.TheVariants.{Not, Concat, Slice, Mux}
use Rattle.bytecode_programs.specs.Instructions.{FrameData}
use Rattle.machine_checked.specs.Samples.{operand}
use Rattle.compiler.specs.Codes.{Slots, slot_of, bit_test, slot_read, reads_slot}
use Rattle.compiler.specs.Codes.{guarded, reduction_end, arithmetic_end, shift_end}
use Rattle.compiler.specs.Codes.{comparison_middle, comparison_end, connective_end}
use Rattle.compiler.specs.Codes.{change_middle, change_end, code_of, guarded_need, need}
use Rattle.compiler.specs.Codes.{reach}
use Rattle.compiler.specs.Laws.{EachPart, IsInFrame}
use Rattle.compiler.proofs.Steps.{Puts, moves-room, puts-one, puts-two, puts-three}
use Rattle.compiler.proofs.Steps.{puts-turned}
use Rattle.compiler.proofs.Instructions.{raw_bit, raw_guarded, push-moves, not-moves}
use Rattle.compiler.proofs.Instructions.{slice-moves, concat-moves, mux-moves, read-moves}
use Rattle.compiler.proofs.Instructions.{extended, test-moves, tested-bit, guarded-puts}
use Rattle.compiler.proofs.OperatorLaws.{raw_compared, raw_connected, turned, low_width, low}
use Rattle.compiler.proofs.OperatorLaws.{reduction-moves, arithmetic-moves, shift-end-moves}
use Rattle.compiler.proofs.OperatorLaws.{connective-moves, middle-moves, comparison-moves}
use Rattle.compiler.proofs.OperatorLaws.{change-middle-moves, change-moves}

-- What the code leaves of rows, whatever they tell.
abbrev pub raw : (ℕ → ℕ → ℕ) → Slots → Term → ℕ → ℕ → ℕ
raw s at (constant bits) w n = bits.value
raw s at (named name) w n = s n (slot_of at name)
raw s at (slice part) w n =
    s n (slot_of at part.name) / 2 ^ part.low % 2 ^ (part.high - part.low + 1)
raw s at (group e) w n = raw s at e (width_of e) n
raw s at (concat a b) w n =
    raw s at a (width_of a) n * 2 ^ width_of b + raw s at b (width_of b) n
raw s at (inverse e) w n = complement w (raw s at e w n)
raw s at (reduce op e) w n = reduction_value op (width_of e) (raw s at e (width_of e) n)
raw s at (combine op a b) w n = arithmetic op w (raw s at a w n) (raw s at b w n)
raw s at (shift op a b) w n = shift_value op w (raw s at a w n) (raw s at b (width_of b) n)
raw s at (compare op a b) w n =
    raw_compared op (max (width_of a) (width_of b)) (raw s at a (max (width_of a) (width_of b)) n)
    (raw s at b (max (width_of a) (width_of b)) n)
raw s at (connect op a b) w n =
    raw_connected op (raw_bit (width_of a) (raw s at a (width_of a) n))
    (raw_bit (width_of b) (raw s at b (width_of b) n))
raw s at (choose c a b) w n =
    if raw_bit (width_of c) (raw s at c (width_of c) n) == 1
    then raw s at a w n
    else raw s at b w n
raw s at (past e ticks) w n =
    raw_guarded (reads_slot e) (s (n + ticks) 0) (raw s at e (width_of e) (n + ticks))
raw s at (change op e) w n =
    change_of op (raw s at e (width_of e) n)
    (raw_guarded (reads_slot e) (s (n + 1) 0) (raw s at e (width_of e) (n + 1)))

pub guarded-some : (b : Bool) (m : ℕ) → 1 ≤ m → 1 ≤ guarded_need b m
guarded-some true m h = h
guarded-some false m h = omega arith

pub need-some : (e : Term) → 1 ≤ need e
need-some (constant bits) = omega arith
need-some (named name) = omega arith
need-some (slice part) = omega arith
need-some (group e) = need-some e
need-some (concat a b) = omega arith
need-some (inverse e) = need-some e
need-some (reduce op e) = need-some e
need-some (combine op a b) = omega arith
need-some (shift op a b) = omega arith
need-some (compare op a b) = omega arith
need-some (connect op a b) = omega arith
need-some (choose c a b) = omega arith
need-some (past e ticks) = guarded-some (reads_slot e) (need e) (need-some e)
need-some (change op e) = omega arith

pub width-some : (e : Term) → 1 ≤ width_of e
width-some (constant bits) = bits.some_bits
width-some (named name) = name.some_bits
width-some (slice part) = omega arith
width-some (group e) = width-some e
width-some (concat a b) = omega (arith, width-some a)
width-some (inverse e) = width-some e
width-some (reduce op e) = omega arith
width-some (combine op a b) = omega (arith, width-some a)
width-some (shift op a b) = width-some a
width-some (compare op a b) = omega arith
width-some (connect op a b) = omega arith
width-some (choose c a b) = omega (arith, width-some a)
width-some (past e ticks) = width-some e
width-some (change op e) = omega arith

module _ (f : FrameData) (d : Limits) (at : Slots) (s : ℕ → ℕ → ℕ) (one : slice_get f.slots 0 ≡ Some
    1) where
  abbrev Fine : Term → Type 0
  Fine = EachPart (IsInFrame f at)

  abbrev Leaves : Term → ℕ → ℕ → Type 0
  Leaves e w n = Puts f d s (code_of at e w n) (operand w (raw s at e w n)) (need e)

  pub raw-leaves :
      (e : Term) (w n : ℕ) → Fine e → width_of e ≤ w → n + reach e ≤ d.history → Leaves e w n
  raw-leaves (constant bits) w n h le far = push-moves f d s w bits.value
  raw-leaves (named name) w n h le far =
      extended f d s (slot_read (slot_of at name) n) name.width w (s n (slot_of at name)) 1
      (omega arith) le (read-moves f d s (slot_of at name) n name.width h.slot (omega (arith, far)))
  raw-leaves (slice part) w n h le far =
      let slot : ℕ = slot_of at part.name in
      let cut : ℕ = part.high - part.low + 1 in
      let v : ℕ = s n slot / 2 ^ part.low % 2 ^ cut in
      extended f d s (slot_read slot n ++ Slice part.high part.low ∷ []) cut w v 1 (omega arith) le
      (puts-one f d s (slot_read slot n) (Slice part.high part.low ∷ [])
      (operand part.name.width (s n slot)) (operand cut v) 1 (omega arith)
      (read-moves f d s slot n part.name.width h.slot (omega (arith, far)))
      (slice-moves f d s part.name.width (s n slot) part.high part.low part.inside))
  raw-leaves (group e) w n h le far =
      extended f d s (code_of at e (width_of e) n) (width_of e) w (raw s at e (width_of e) n)
      (need e) (need-some e) le (raw-leaves e (width_of e) n h.1 (omega arith) far)
  raw-leaves (concat a b) w n h le far =
      let x : ℕ = raw s at a (width_of a) n in
      let y : ℕ = raw s at b (width_of b) n in
      let ca : List SampleInstr = code_of at a (width_of a) n in
      let cb : List SampleInstr = code_of at b (width_of b) n in
      let v : ℕ = x * 2 ^ width_of b + y in
      extended f d s (ca ++ cb ++ Concat ∷ []) (width_of a + width_of b) w v (need (concat a b))
      (omega arith) le
      (moves-room f d s (ca ++ cb ++ Concat ∷ []) [] (operand (width_of a + width_of b) v ∷ [])
      (max (max (need a) (1 + need b)) 1) (need (concat a b)) (omega arith)
      (puts-two f d s ca cb (Concat ∷ []) (operand (width_of a) x) (operand (width_of b) y)
      (operand (width_of a + width_of b) v) (need a) (need b) 1
      (raw-leaves a (width_of a) n h.1 (omega arith) (omega (arith, far)))
      (raw-leaves b (width_of b) n h.2 (omega arith) (omega (arith, far)))
      (concat-moves f d s (width_of a) x (width_of b) y (omega (arith, h.0.narrow)))))
  raw-leaves (inverse e) w n h le far =
      puts-one f d s (code_of at e w n) (Not ∷ []) (operand w (raw s at e w n))
      (operand w (complement w (raw s at e w n))) (need e) (need-some e)
      (raw-leaves e w n h.1 le far) (not-moves f d s w (raw s at e w n))
  raw-leaves (reduce op e) w n h le far =
      let x : ℕ = raw s at e (width_of e) n in
      let c : List SampleInstr = code_of at e (width_of e) n in
      let v : ℕ = reduction_value op (width_of e) x in
      extended f d s (c ++ reduction_end op) 1 w v (need e) (need-some e) le
      (puts-one f d s c (reduction_end op) (operand (width_of e) x) (operand 1 v) (need e)
      (need-some e) (raw-leaves e (width_of e) n h.1 (omega arith) far)
      (reduction-moves f d s op (width_of e) x))
  raw-leaves (combine op a b) w n h le far =
      let x : ℕ = raw s at a w n in
      let y : ℕ = raw s at b w n in
      moves-room f d s (code_of at (combine op a b) w n) [] (operand w (arithmetic op w x y) ∷ [])
      (max (max (need a) (1 + need b)) 1) (need (combine op a b)) (omega arith)
      (puts-two f d s (code_of at a w n) (code_of at b w n) (arithmetic_end op) (operand w x)
      (operand w y) (operand w (arithmetic op w x y)) (need a) (need b) 1
      (raw-leaves a w n h.1 (omega (arith, le)) (omega (arith, far)))
      (raw-leaves b w n h.2 (omega (arith, le)) (omega (arith, far)))
      (arithmetic-moves f d s op w x y))
  raw-leaves (shift op a b) w n h le far =
      let x : ℕ = raw s at a w n in
      let y : ℕ = raw s at b (width_of b) n in
      moves-room f d s (code_of at (shift op a b) w n) [] (operand w (shift_value op w x y) ∷ [])
      (max (max (need a) (1 + need b)) 1) (need (shift op a b)) (omega arith)
      (puts-two f d s (code_of at a w n) (code_of at b (width_of b) n) (shift_end op) (operand w x)
      (operand (width_of b) y) (operand w (shift_value op w x y)) (need a) (need b) 1
      (raw-leaves a w n h.1 le (omega (arith, far)))
      (raw-leaves b (width_of b) n h.2 (omega arith) (omega (arith, far)))
      (shift-end-moves f d s op w x (width_of b) y))
  raw-leaves (compare op a b) w n h le far =
      let m : ℕ = max (width_of a) (width_of b) in
      let x : ℕ = raw s at a m n in
      let y : ℕ = raw s at b m n in
      let ca : List SampleInstr = code_of at a m n in
      let cb : List SampleInstr = code_of at b m n in
      let v : ℕ = raw_compared op m x y in
      extended f d s (ca ++ comparison_middle op ++ cb ++ comparison_end op) 1 w v
      (need (compare op a b)) (omega arith) le
      (moves-room f d s (ca ++ comparison_middle op ++ cb ++ comparison_end op) []
      (operand 1 v ∷ []) (max (max (need a) (1 + need b)) 2) (need (compare op a b))
      (omega (arith, need-some b))
      (puts-two f d s (ca ++ comparison_middle op) cb (comparison_end op)
      (operand m (turned op m x)) (operand m y) (operand 1 v) (need a) (need b) 2
      (puts-one f d s ca (comparison_middle op) (operand m x) (operand m (turned op m x)) (need a)
      (need-some a) (raw-leaves a m n h.1 (omega arith) (omega (arith, far)))
      (middle-moves f d s op m x)) (raw-leaves b m n h.2 (omega arith) (omega (arith, far)))
      (comparison-moves f d s op m x y)))
  raw-leaves (connect op a b) w n h le far =
      let x : ℕ = raw s at a (width_of a) n in
      let y : ℕ = raw s at b (width_of b) n in
      let ca : List SampleInstr = code_of at a (width_of a) n in
      let cb : List SampleInstr = code_of at b (width_of b) n in
      let p : ℕ = raw_bit (width_of a) x in
      let q : ℕ = raw_bit (width_of b) y in
      let v : ℕ = raw_connected op p q in
      let tail : List SampleInstr = bit_test (width_of b) in
      extended f d s (ca ++ bit_test (width_of a) ++ cb ++ tail ++ connective_end op) 1 w v
      (need (connect op a b)) (omega arith) le
      (puts-turned f d s (ca ++ bit_test (width_of a)) cb tail (connective_end op) (operand 1 p)
      (operand (width_of b) y) (operand 1 q) (operand 1 v) (need a) (need b) (need-some b)
      (tested-bit f d s ca (width_of a) x (need a) (need-some a)
      (raw-leaves a (width_of a) n h.1 (omega arith) (omega (arith, far))))
      (raw-leaves b (width_of b) n h.2 (omega arith) (omega (arith, far)))
      (test-moves f d s (width_of b) y) (connective-moves f d s op p q))
  raw-leaves (choose c a b) w n h le far =
      let x : ℕ = raw s at c (width_of c) n in
      let cc : List SampleInstr = code_of at c (width_of c) n in
      let p : ℕ = raw_bit (width_of c) x in
      let y : ℕ = raw s at a w n in
      let z : ℕ = raw s at b w n in
      puts-three f d s (cc ++ bit_test (width_of c)) (code_of at a w n) (code_of at b w n) (Mux ∷
      [])
      (operand 1 p) (operand w y) (operand w z) (operand w (if p == 1 then y else z)) (need c)
      (need a) (need b)
      (tested-bit f d s cc (width_of c) x (need c) (need-some c)
      (raw-leaves c (width_of c) n h.1 (omega arith) (omega (arith, far))))
      (raw-leaves a w n h.2 (omega (arith, le)) (omega (arith, far)))
      (raw-leaves b w n h.3 (omega (arith, le)) (omega (arith, far))) (mux-moves f d s w p y z)
  raw-leaves (past e ticks) w n h le far =
      let m : ℕ = n + ticks in
      let x : ℕ = raw s at e (width_of e) m in
      let c : List SampleInstr = code_of at e (width_of e) m in
      extended f d s (guarded (reads_slot e) (width_of e) m c) (width_of e) w
      (raw_guarded (reads_slot e) (s m 0) x) (need (past e ticks))
      (guarded-some (reads_slot e) (need e) (need-some e)) le
      (guarded-puts f d s (reads_slot e) (width_of e) m x (need e) c one (omega (arith, far))
      (raw-leaves e (width_of e) m h.1 (omega arith) (omega (arith, far))))
  raw-leaves (change op e) w n h le far =
      let u : ℕ = width_of e in
      let x : ℕ = raw s at e u n in
      let y : ℕ = raw_guarded (reads_slot e) (s (n + 1) 0) (raw s at e u (n + 1)) in
      let now : List SampleInstr = code_of at e u n ++ change_middle op in
      let before : List SampleInstr = guarded (reads_slot e) u (n + 1) (code_of at e u (n + 1)) in
      let more : ℕ = guarded_need (reads_slot e) (need e) in
      let some : 1 ≤ more = guarded-some (reads_slot e) (need e) (need-some e) in
      extended f d s (now ++ before ++ change_end op) 1 w (change_of op x y) (need (change op e))
      (omega (arith, need-some e)) le
      (moves-room f d s (now ++ before ++ change_end op) [] (operand 1 (change_of op x y) ∷ [])
      (max (max (need e) (1 + more)) 2) (need (change op e)) (omega (arith, some))
      (puts-two f d s now before (change_end op) (operand (low_width op u) (low op x))
      (operand u y) (operand 1 (change_of op x y)) (need e) more 2
      (puts-one f d s (code_of at e u n) (change_middle op) (operand u x)
      (operand (low_width op u) (low op x)) (need e) (need-some e)
      (raw-leaves e u n h.1 (omega arith) (omega (arith, far)))
      (change-middle-moves f d s op u x (width-some e)))
      (guarded-puts f d s (reads_slot e) u (n + 1) (raw s at e u (n + 1)) (need e)
      (code_of at e u (n + 1)) one (omega (arith, far))
      (raw-leaves e u (n + 1) h.1 (omega arith) (omega (arith, far))))
      (change-moves f d s op u x y (width-some e))))
