-- Sample code looks at no more rows than the declared history has.
use Rattle.std.proofs.Common.{◌≡◌, ◌∙◌, ℕ, zero, suc, ◌≤◌, ◌==◌, Bool, true, false, List, [], ◌∷◌, length, map, Option}
use Rattle.std.proofs.Common.{Some, None, slice_get, refl, ap, arith}
use Rattle.std.specs.Prelude.{nat_le, slice_index, if◌then◌else◌}
use Rattle.std.proofs.lemmas.Bool.{leb-true}
use Rattle.std.proofs.Math.Path.{fun_ext}
use Rattle.bytecode_programs.specs.declared.limits.Limits.{Limits}
use Rattle.bytecode_programs.specs.declared.sample_instr.SampleInstr.{SampleInstr}
use Rattle.bytecode_programs.specs.declared.sample_instr.SampleInstr.TheVariants.{Push, Load, Past, Join, Compare}
use Rattle.bytecode_programs.specs.declared.sample_instr.SampleInstr.TheVariants.{Shift, Not}
use Rattle.bytecode_programs.specs.declared.sample_instr.SampleInstr.TheVariants.{Reduce, Concat, Zext, Slice, Mux}
use Rattle.bytecode_programs.specs.declared.sample_instr.SampleInstr.TheVariants.{Jump}
use Rattle.bytecode_programs.specs.declared.sample_instr.SampleInstr.TheVariants.{JumpIfZero, SetAtom, Store, Halt}
use Rattle.bytecode_programs.specs.Instructions.{FrameData, Effect, leaves, too_few, misfit, is_there, sample_flow}
use Rattle.bytecode_programs.specs.Instructions.{sample_effect}
use Rattle.machine_checked.specs.Outcomes.{Ran, trapped, bad_operand, past_history}
use Rattle.machine_checked.specs.Samples.{Operand, operand, operand_width, Made, results, making, top, follow}
use Rattle.machine_checked.specs.Samples.{reaches}
use Rattle.machine_checked.specs.Samples.{met}
use Rattle.machine_checked.specs.Samples.{obey_sample, run_sample}

module _ (f : FrameData) (d : Limits) (one two : ℕ → ℕ → ℕ) (agree : (back slot : ℕ) → back ≤ d.history
    → one back slot ≡ two back slot) where
  same-results : (i : SampleInstr) (xs : List Operand) → reaches d i ≡ true → results f one i xs ≡ results f two i xs
  same-results (Push w v) xs h = refl
  same-results (Load slot) xs h = ap (λ v. operand (slice_index f.slots slot) v ∷ xs) (agree 0 slot (omega arith))
  same-results (Past slot k) xs h =
      ap (λ v. operand (slice_index f.slots slot) v ∷ xs) (agree k slot (leb-true k d.history h))
  same-results (Join op) [] h = refl
  same-results (Join op) (y ∷ []) h = refl
  same-results (Join op) (y ∷ x ∷ xs) h = refl
  same-results (Compare op) [] h = refl
  same-results (Compare op) (y ∷ []) h = refl
  same-results (Compare op) (y ∷ x ∷ xs) h = refl
  same-results (Shift op) [] h = refl
  same-results (Shift op) (y ∷ []) h = refl
  same-results (Shift op) (y ∷ x ∷ xs) h = refl
  same-results Not [] h = refl
  same-results Not (x ∷ xs) h = refl
  same-results (Reduce op) [] h = refl
  same-results (Reduce op) (x ∷ xs) h = refl
  same-results Concat [] h = refl
  same-results Concat (y ∷ []) h = refl
  same-results Concat (y ∷ x ∷ xs) h = refl
  same-results (Zext w) [] h = refl
  same-results (Zext w) (x ∷ xs) h = refl
  same-results (Slice high low) [] h = refl
  same-results (Slice high low) (x ∷ xs) h = refl
  same-results Mux [] h = refl
  same-results Mux (y ∷ []) h = refl
  same-results Mux (y ∷ x ∷ []) h = refl
  same-results Mux (y ∷ x ∷ bit ∷ xs) h = refl
  same-results (Jump target) xs h = refl
  same-results (JumpIfZero target) [] h = refl
  same-results (JumpIfZero target) (x ∷ xs) h = refl
  same-results (SetAtom atom) [] h = refl
  same-results (SetAtom atom) (x ∷ xs) h = refl
  same-results (Store counter) [] h = refl
  same-results (Store counter) (x ∷ xs) h = refl
  same-results Halt xs h = refl

  same-if : {A : Type 0} (b : Bool) (x y z : A) → (b ≡ true → x ≡ y) → (if b then x else z) ≡ (if b then y else z)
  same-if true x y z h = h refl
  same-if false x y z h = refl

  same-met : (i : SampleInstr) (pc : ℕ) (xs : List Operand) (made : Made) (go : ℕ → List Operand → Made → Ran Made)
      (left : ℕ) (inside : Bool) (e : Effect) →
      met f d one i pc xs made go left inside e ≡ met f d two i pc xs made go left inside e
  same-met i pc xs made go left false e = refl
  same-met i pc xs made go left true too_few = refl
  same-met i pc xs made go left true misfit = refl
  same-met i pc xs made go left true (leaves ws) =
      same-if (nat_le (length ws) d.stack)
      (if reaches d i then follow (sample_flow i) pc (top xs == 0) (results f one i xs) (making i xs made) go left else
      trapped past_history)
      (if reaches d i then follow (sample_flow i) pc (top xs == 0) (results f two i xs) (making i xs made) go left else
      trapped past_history)
      (trapped bad_operand)
      (λ fits.
      same-if (reaches d i)
      (follow (sample_flow i) pc (top xs == 0) (results f one i xs) (making i xs made) go left)
      (follow (sample_flow i) pc (top xs == 0) (results f two i xs) (making i xs made) go left)
      (trapped past_history)
      (λ near. ap (λ ys. follow (sample_flow i) pc (top xs == 0) ys (making i xs made) go left)
      (same-results i xs near)))

  same-obey : (pc : ℕ) (xs : List Operand) (made : Made) (go other : ℕ → List Operand → Made → Ran Made) (left : ℕ)
      (i : Option SampleInstr) → go ≡ other →
      obey_sample f d one pc xs made go left i ≡ obey_sample f d two pc xs made other left i
  same-obey pc xs made go other left None same = refl
  same-obey pc xs made go other left (Some i) same =
      same-met i pc xs made go left (is_there f i) (sample_effect f i (map operand_width xs))
      ∙ ap (λ g. met f d two i pc xs made g left (is_there f i) (sample_effect f i (map operand_width xs))) same

  pub same-run : (code : List SampleInstr) (left pc : ℕ) (xs : List Operand) (made : Made) →
      run_sample f d one code left pc xs made ≡ run_sample f d two code left pc xs made
  same-run code zero pc xs made = refl
  same-run code (suc left) pc xs made =
      same-obey pc xs made (run_sample f d one code left) (run_sample f d two code left) left (slice_get code pc)
      (fun_ext (λ at. fun_ext (λ ys. fun_ext (λ m. same-run code left at ys m))))
