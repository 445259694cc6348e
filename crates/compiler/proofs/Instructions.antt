-- What each instruction makes of the operands on top.
use Rattle.std.proofs.Common.{◌≡◌, ℕ, zero, suc, ◌+◌, ◌-◌, ◌*◌, ◌/◌, ◌%◌, ◌^◌, ◌<◌, ◌≤◌}
use Rattle.std.proofs.Common.{max, Bool, true, false, List, [], ◌∷◌, ◌++◌, Some, refl, subst}
use Rattle.std.proofs.Common.{arith, length}
use Rattle.std.specs.Prelude.{slice_get, slice_index, if◌then◌else◌, ◌==◌, not}
use Rattle.std.proofs.lemmas.Bool.{le-leb, eq-eqb, lt-ltb, eqb-true}
use Rattle.std.proofs.lemmas.Option.{same_Some, slice_get_within}
use Rattle.signals.specs.Tests.{one_if}
use Rattle.bytecode_programs.specs.declared.limits.Limits.{Limits}
use Rattle.bytecode_programs.specs.declared.operator.JoinOperator.{JoinOperator}
use Rattle.bytecode_programs.specs.declared.operator.CompareOperator.{CompareOperator}
use Rattle.bytecode_programs.specs.declared.operator.ShiftOperator.{ShiftOperator}
use Rattle.bytecode_programs.specs.declared.operator.ReduceOperator.{ReduceOperator}
use Rattle.bytecode_programs.specs.declared.operator.ReduceOperator.TheVariants.{RedOr}
use Rattle.bytecode_programs.specs.declared.sample_instr.SampleInstr.TheVariants.{Push, Load, Past, Join}
use Rattle.bytecode_programs.specs.declared.sample_instr.SampleInstr.TheVariants.{Compare, Shift, Not}
use Rattle.bytecode_programs.specs.declared.sample_instr.SampleInstr.TheVariants.{Reduce, Concat, Zext}
use Rattle.bytecode_programs.specs.declared.sample_instr.SampleInstr.TheVariants.{Slice, Mux}
use Rattle.bytecode_programs.specs.declared.sample_instr.SampleInstr.{SampleInstr}
use Rattle.bytecode_programs.specs.Instructions.{FrameData}
use Rattle.machine_checked.specs.Samples.{Operand, operand, join_value, compared, shifted, reduced}
use Rattle.compiler.specs.Codes.{extension, bit_test, slot_read, guarded, guarded_need}
use Rattle.compiler.proofs.Steps.{Moves, Puts, acts-moves, moves-none, moves-room}
use Rattle.compiler.proofs.Steps.{moves-then}
use Rattle.compiler.proofs.Steps.{puts-one, puts-two}

pub index-of :
    (slots : List ℕ) (slot w : ℕ) → slice_get slots slot ≡ Some w → slice_index slots slot ≡ w
index-of [] slot w h = cc
index-of (x ∷ slots) zero w h = same_Some x w h
index-of (x ∷ slots) (suc slot) w h = index-of slots slot w h

-- what a test of one bit leaves of a value of w bits
abbrev pub raw_bit : ℕ → ℕ → ℕ
raw_bit w v = if w == 1 then v else one_if (not (v == 0))

-- what guarded code leaves, where ticks is what the constant slot held
abbrev pub raw_guarded : Bool → ℕ → ℕ → ℕ
raw_guarded true ticks v = v
raw_guarded false ticks v = if ticks == 1 then v else 0

module _ (f : FrameData) (d : Limits) (s : ℕ → ℕ → ℕ) where
  pub push-moves : (w v : ℕ) → Puts f d s (Push w v ∷ []) (operand w v) 1
  push-moves w v =
      acts-moves f d s (Push w v) [] (operand w v ∷ [])
      (record {
        there = refl;
        rule = λ xs. refl;
        back = refl;
        on = refl;
        becomes = λ xs. refl;
        keeps = λ xs made. refl;
      })

  pub not-moves :
      (w v : ℕ) → Moves f d s (Not ∷ []) (operand w v ∷ []) (operand w (2 ^ w - 1 - v) ∷ []) 1
  not-moves w v =
      acts-moves f d s Not (operand w v ∷ []) (operand w (2 ^ w - 1 - v) ∷ [])
      (record {
        there = refl;
        rule = λ xs. refl;
        back = refl;
        on = refl;
        becomes = λ xs. refl;
        keeps = λ xs made. refl;
      })

  pub reduce-moves :
      (op : ReduceOperator) (w v : ℕ) →
      Moves f d s (Reduce op ∷ []) (operand w v ∷ []) (operand 1 (reduced op w v) ∷ []) 1
  reduce-moves op w v =
      acts-moves f d s (Reduce op) (operand w v ∷ []) (operand 1 (reduced op w v) ∷ [])
      (record {
        there = refl;
        rule = λ xs. refl;
        back = refl;
        on = refl;
        becomes = λ xs. refl;
        keeps = λ xs made. refl;
      })

  pub zext-moves :
      (w v n : ℕ) → w ≤ n →
      Moves f d s (Zext n ∷ []) (operand w v ∷ []) (operand n v ∷ []) 1
  zext-moves w v n le =
      acts-moves f d s (Zext n) (operand w v ∷ []) (operand n v ∷ [])
      (record {
        there = refl;
        rule = λ xs. rw (le-leb w n le) refl;
        back = refl;
        on = refl;
        becomes = λ xs. refl;
        keeps = λ xs made. refl;
      })

  pub slice-moves :
      (w v high low : ℕ) → high < w →
      Moves f d s (Slice high low ∷ []) (operand w v ∷ [])
      (operand (high - low + 1) (v / 2 ^ low % 2 ^ (high - low + 1)) ∷ []) 1
  slice-moves w v high low lt =
      acts-moves f d s (Slice high low) (operand w v ∷ [])
      (operand (high - low + 1) (v / 2 ^ low % 2 ^ (high - low + 1)) ∷ [])
      (record {
        there = refl;
        rule = λ xs. rw (lt-ltb high w lt) refl;
        back = refl;
        on = refl;
        becomes = λ xs. refl;
        keeps = λ xs made. refl;
      })

  pub join-moves :
      (op : JoinOperator) (w x y : ℕ) →
      Moves f d s (Join op ∷ []) (operand w y ∷ operand w x ∷ [])
      (operand w (join_value op w x y) ∷ []) 1
  join-moves op w x y =
      acts-moves f d s (Join op) (operand w y ∷ operand w x ∷ [])
      (operand w (join_value op w x y) ∷ [])
      (record {
        there = refl;
        rule = λ xs. rw (eq-eqb w w refl) refl;
        back = refl;
        on = refl;
        becomes = λ xs. refl;
        keeps = λ xs made. refl;
      })

  pub compare-moves :
      (op : CompareOperator) (w x y : ℕ) →
      Moves f d s (Compare op ∷ []) (operand w y ∷ operand w x ∷ [])
      (operand 1 (compared op x y) ∷ []) 1
  compare-moves op w x y =
      acts-moves f d s (Compare op) (operand w y ∷ operand w x ∷ []) (operand 1 (compared op x y) ∷
      [])
      (record {
        there = refl;
        rule = λ xs. rw (eq-eqb w w refl) refl;
        back = refl;
        on = refl;
        becomes = λ xs. refl;
        keeps = λ xs made. refl;
      })

  pub shift-moves :
      (op : ShiftOperator) (w x u y : ℕ) →
      Moves f d s (Shift op ∷ []) (operand u y ∷ operand w x ∷ [])
      (operand w (shifted op w x y) ∷ []) 1
  shift-moves op w x u y =
      acts-moves f d s (Shift op) (operand u y ∷ operand w x ∷ [])
      (operand w (shifted op w x y) ∷ [])
      (record {
        there = refl;
        rule = λ xs. refl;
        back = refl;
        on = refl;
        becomes = λ xs. refl;
        keeps = λ xs made. refl;
      })

  pub concat-moves :
      (w x u y : ℕ) → w + u ≤ 128 →
      Moves f d s (Concat ∷ []) (operand u y ∷ operand w x ∷ [])
      (operand (w + u) (x * 2 ^ u + y) ∷ []) 1
  concat-moves w x u y le =
      acts-moves f d s Concat (operand u y ∷ operand w x ∷ []) (operand (w + u) (x * 2 ^ u + y) ∷
      [])
      (record {
        there = refl;
        rule = λ xs. rw (le-leb (w + u) 128 le) refl;
        back = refl;
        on = refl;
        becomes = λ xs. refl;
        keeps = λ xs made. refl;
      })

  pub mux-moves :
      (w bit x y : ℕ) →
      Moves f d s (Mux ∷ []) (operand w y ∷ operand w x ∷ operand 1 bit ∷ [])
      (operand w (if bit == 1 then x else y) ∷ []) 2
  mux-moves w bit x y =
      moves-room f d s (Mux ∷ []) (operand w y ∷ operand w x ∷ operand 1 bit ∷ [])
      (operand w (if bit == 1 then x else y) ∷ []) 1 2 (omega arith)
      (acts-moves f d s Mux (operand w y ∷ operand w x ∷ operand 1 bit ∷ [])
      (operand w (if bit == 1 then x else y) ∷ [])
      (record {
        there = refl;
        rule = λ xs. rw (eq-eqb w w refl) refl;
        back = refl;
        on = refl;
        becomes = λ xs. refl;
        keeps = λ xs made. refl;
      }))

  pub read-moves :
      (slot n w : ℕ) → slice_get f.slots slot ≡ Some w → n ≤ d.history →
      Puts f d s (slot_read slot n) (operand w (s n slot)) 1
  read-moves slot zero w h le =
      acts-moves f d s (Load slot) [] (operand w (s 0 slot) ∷ [])
      (record {
        there = lt-ltb slot (length f.slots) (slice_get_within f.slots slot w h);
        rule = λ xs. rw (index-of f.slots slot w h) refl;
        back = refl;
        on = refl;
        becomes = λ xs. rw (index-of f.slots slot w h) refl;
        keeps = λ xs made. refl;
      })
  read-moves slot (suc n) w h le =
      acts-moves f d s (Past slot (suc n)) [] (operand w (s (suc n) slot) ∷ [])
      (record {
        there = lt-ltb slot (length f.slots) (slice_get_within f.slots slot w h);
        rule = λ xs. rw (index-of f.slots slot w h) refl;
        back = le-leb (suc n) d.history le;
        on = refl;
        becomes = λ xs. rw (index-of f.slots slot w h) refl;
        keeps = λ xs made. refl;
      })

  -- 0 where the bit below is 0
  pub zero-moves :
      (w bit x : ℕ) →
      Moves f d s (Push w 0 ∷ Mux ∷ []) (operand w x ∷ operand 1 bit ∷ [])
      (operand w (if bit == 1 then x else 0) ∷ []) 3
  zero-moves w bit x =
      let low : List Operand = operand w x ∷ operand 1 bit ∷ [] in
      let above : Moves f d s (Push w 0 ∷ []) low (operand w 0 ∷ low) 3 =
      (λ xs made fits. push-moves w 0 (operand w x ∷ operand 1 bit ∷ xs) made (omega (arith, fits)))
      in
      moves-then f d s (Push w 0 ∷ []) (Mux ∷ []) low (operand w 0 ∷ low)
      (operand w (if bit == 1 then x else 0) ∷ []) 3 2 above (mux-moves w bit x 0)

  extends :
      (b : Bool) (from to v : ℕ) → (from == to) ≡ b → from ≤ to →
      Moves f d s (if b then [] else Zext to ∷ []) (operand from v ∷ []) (operand to v ∷ []) 1
  extends true from to v e le =
      subst (λ w. Moves f d s [] (operand from v ∷ []) (operand w v ∷ []) 1) (eqb-true from to e)
      (moves-none f d s (operand from v ∷ []) 1)
  extends false from to v e le = zext-moves from v to le

  pub extension-moves :
      (from to v : ℕ) → from ≤ to →
      Moves f d s (extension from to) (operand from v ∷ []) (operand to v ∷ []) 1
  extension-moves from to v le = extends (from == to) from to v refl le

  tests :
      (b : Bool) (w v : ℕ) → (w == 1) ≡ b →
      Moves f d s (if b then [] else Reduce RedOr ∷ []) (operand w v ∷ [])
      (operand 1 (if b then v else one_if (not (v == 0))) ∷ []) 1
  tests true w v e =
      subst (λ n. Moves f d s [] (operand w v ∷ []) (operand n v ∷ []) 1) (eqb-true w 1 e)
      (moves-none f d s (operand w v ∷ []) 1)
  tests false w v e = reduce-moves RedOr w v

  pub test-moves :
      (w v : ℕ) →
      Moves f d s (bit_test w) (operand w v ∷ []) (operand 1 (raw_bit w v) ∷ []) 1
  test-moves w v = tests (w == 1) w v refl

  pub extended :
      (a : List SampleInstr) (from to v m : ℕ) → 1 ≤ m → from ≤ to →
      Puts f d s a (operand from v) m → Puts f d s (a ++ extension from to) (operand to v) m
  extended a from to v m some le h =
      puts-one f d s a (extension from to) (operand from v) (operand to v) m some h
      (extension-moves from to v le)

  pub tested-bit :
      (a : List SampleInstr) (w v m : ℕ) → 1 ≤ m → Puts f d s a (operand w v) m →
      Puts f d s (a ++ bit_test w) (operand 1 (raw_bit w v)) m
  tested-bit a w v m some h =
      puts-one f d s a (bit_test w) (operand w v) (operand 1 (raw_bit w v)) m some h
      (test-moves w v)

  pub guarded-puts :
      (b : Bool) (w n v m : ℕ) (a : List SampleInstr) → slice_get f.slots 0 ≡ Some 1 →
      n ≤ d.history → Puts f d s a (operand w v) m →
      Puts f d s (guarded b w n a) (operand w (raw_guarded b (s n 0) v)) (guarded_need b m)
  guarded-puts true w n v m a one le h = h
  guarded-puts false w n v m a one le h =
      moves-room f d s (slot_read 0 n ++ a ++ Push w 0 ∷ Mux ∷ []) []
      (operand w (if s n 0 == 1 then v else 0) ∷ []) (max (max 1 (1 + m)) 3) (max 3 (1 + m))
      (omega arith)
      (puts-two f d s (slot_read 0 n) a (Push w 0 ∷ Mux ∷ []) (operand 1 (s n 0)) (operand w v)
      (operand w (if s n 0 == 1 then v else 0)) 1 m 3 (read-moves 0 n 1 one le) h
      (zero-moves w (s n 0) v))
