-- The scan of a block.
use Rattle.std.proofs.Common.{◌≡◌, ℕ, ◌+◌, ◌<◌, ◌≤◌, Bool, true, false, cond, List, [], ◌∷◌, length}
use Rattle.std.proofs.Common.{get_or, Some, None, refl, sym, ap, subst, arith}
use Rattle.std.specs.Prelude.{◌==◌, slice_get, nat_lt}
use Rattle.bytecode_programs.specs.declared.block_instr.BlockInstr.{BlockInstr}
use Rattle.bytecode_programs.specs.declared.block_instr.BlockInstr.TheVariants.{Unless, Enter, Accept, Stop}
use Rattle.bytecode_programs.specs.declared.block_instr.BlockInstr.TheVariants.{AcceptFirst}
use Rattle.verifier.specs.declared.refusal.Refusal.{Refusal}
use Rattle.verifier.specs.declared.refusal.Refusal.TheVariants.{SlotRange, Cycle, AcceptKind}
use Rattle.verifier.specs.Rules.{block_rules}
use Rattle.bytecode_programs.specs.Instructions.{block_flow}
use Rattle.verifier.specs.Inference.{Message, sends, jump_faults, end_faults, faults_at, left_by}
use Rattle.verifier.specs.Inference.{code_faults, found, entry}
use Rattle.verifier.specs.Order.{fault_part, IsFirstFound, first_refusal}
use Rattle.verifier.specs.Scans.{list_at, HasRead}
use Rattle.verifier.specs.Marks.{marked, MarksReached}
use Rattle.verifier.proofs.OrderLaws.{Rises, NamesRise}
use Rattle.verifier.proofs.ScanLaws.{head_of, start, step, refused_at, stop}
use Rattle.verifier.proofs.TypingLaws.{faults_parts}

one_name : (b : Bool) (pc : ℕ) → Rises 8 17 (cond b [] (SlotRange pc ∷ []))
one_name true pc = omega arith
one_name false pc = (omega arith, refl, omega arith)

kind_name : (b : Bool) (pc : ℕ) → Rises 8 17 (cond b [] (AcceptKind pc ∷ []))
kind_name true pc = omega arith
kind_name false pc = (omega arith, refl, omega arith)

two_names : (b d : Bool) (p pc : ℕ) → Rises 8 17 (cond b (cond d [] (Cycle p ∷ [])) (SlotRange pc ∷ []))
two_names true true p pc = omega arith
two_names true false p pc = (omega arith, refl, omega arith)
two_names false d p pc = (omega arith, refl, omega arith)

pub block_rise : (section atoms positions p : ℕ) → NamesRise (block_rules section atoms positions p)
block_rise section atoms positions p pc (Unless atom target) = one_name (nat_lt atom atoms) pc
block_rise section atoms positions p pc (Enter q) = two_names (nat_lt q positions) (nat_lt p q) p pc
block_rise section atoms positions p pc Accept = omega arith
block_rise section atoms positions p pc Stop = omega arith
block_rise section atoms positions p pc AcceptFirst = kind_name (section == 2) pc

pub none_first : (rs : List Refusal) → None ≡ first_refusal rs → rs ≡ []
none_first [] h = refl
none_first (r ∷ rs) h = cc

left_marked : (section atoms positions p : ℕ) (i : BlockInstr) (mark : Bool)
    → left_by (block_rules section atoms positions p) i (marked mark) ≡ []
left_marked section atoms positions p i true = refl
left_marked section atoms positions p i false = refl

list_marked : (mark : Bool) → list_at (marked mark) ≡ []
list_marked true = refl
list_marked false = refl

module _ (section atoms positions p base : ℕ) (block : List BlockInstr) where
  pub block_start : (marks : List Bool) → 0 < length block → MarksReached base marks (entry base)
      → HasRead (block_rules section atoms positions p) base block (MarksReached base marks) 0 (base + length block)
      (base + 0) 0
  block_start marks some reached =
      let e : base ≡ base + 0 = omega arith in
      subst (λ (pc : ℕ). HasRead (block_rules section atoms positions p) base block (MarksReached base marks) 0
      (base + length block) pc 0) e
      (start (block_rules section atoms positions p) base (base + length block) block
      (MarksReached base marks) refl some
      reached)

  module _ (marks : List Bool) (k : ℕ) (i d : BlockInstr) (mark : Bool)
      (read : HasRead (block_rules section atoms positions p) base block (MarksReached base marks) 0
      (base + length block)
      (base + k) k) (below : k < length block) (here : i ≡ get_or block k d) (at : slice_get marks k ≡ Some mark)
    where
      pub block_refused : (e : Refusal)
          → Some e
          ≡ first_refusal
          (faults_at (block_rules section atoms positions p) (base + length block) (base + k) i (marked mark)) →
          IsFirstFound (found section (base + k) e) (code_faults (block_rules section atoms positions p) base block)
          × (fault_part e ≡ 0)
      block_refused e h =
          refused_at (block_rules section atoms positions p) base block (MarksReached base marks) 0
          (base + length block)
          (base + k) k i d (marked mark) read below here (sym (read.holds k mark at)) e
          (block_rise section atoms positions p)
          (head_of e _ h)

      pub block_step : (new : List Bool)
          → None
          ≡ first_refusal
          (faults_at (block_rules section atoms positions p) (base + length block) (base + k) i (marked mark)) →
          ((ms : List Message) → MarksReached base marks ms
          → MarksReached base new (sends (base + k) (block_flow i) [] ms))
          → HasRead (block_rules section atoms positions p) base block (MarksReached base new) 0 (base + length block)
          (base + (k + 1)) (k + 1)
      block_step new clear sent =
          let e : base + k + 1 ≡ base + (k + 1) = omega arith in
          let none : 0 ≡ length (list_at (marked mark)) = ap (length {A = ℕ}) (sym (list_marked mark)) in
          subst (λ (pc : ℕ). HasRead (block_rules section atoms positions p) base block (MarksReached base new) 0
          (base + length block) pc (k + 1)) e
          (step (block_rules section atoms positions p) base block (MarksReached base marks) 0 (base + length block)
          (base + k)
          k i d (marked mark) read below here (sym (read.holds k mark at)) [] (MarksReached base new) 0
          (none_first _ clear) (left_marked section atoms positions p i mark) (omega (arith, none)) sent)

      pub block_parts : None
          ≡ first_refusal
          (faults_at (block_rules section atoms positions p) (base + length block) (base + k) i (marked mark)) →
          (jump_faults (base + length block) (base + k) (block_flow i) ≡ [])
          × (end_faults (base + length block) (base + k) (block_flow i) ≡ [])
      block_parts clear =
          faults_parts (block_rules section atoms positions p) (base + length block) (base + k) i (marked mark)
          (none_first _ clear)

  pub block_stop : (marks : List Bool) (k : ℕ) → HasRead (block_rules section atoms positions p) base block
      (MarksReached base marks) 0 (base + length block) (base + k) k → length block ≤ k
      → code_faults (block_rules section atoms positions p) base block ≡ []
  block_stop marks k read past =
      (stop (block_rules section atoms positions p) base block (MarksReached base marks) 0 (base + length block)
      (base + k)
      k read past).0
