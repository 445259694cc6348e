-- Lists that are left are lists of the table, so the stack bounds them.
use Rattle.std.proofs.Common.{◌≡◌, ◌⊎◌, inl, inr, ℕ, zero, suc, ◌+◌, ◌<◌, ◌≤◌, List, [], ◌∷◌}
use Rattle.std.proofs.Common.{length, Some, refl, sym, ap, ◌∙◌, subst, arith}
use Rattle.std.specs.Prelude.{slice_get}
use Rattle.std.proofs.lemmas.Option.{slice_get_within}
use Rattle.bytecode_programs.specs.declared.flow.Flow.{Flow}
use Rattle.bytecode_programs.specs.declared.flow.Flow.TheVariants.{Stops, GoesOn, Jumps, Branches}
use Rattle.bytecode_programs.specs.declared.sample_instr.SampleInstr.{SampleInstr}
use Rattle.bytecode_programs.specs.declared.sample_instr.SampleInstr.TheVariants.{Push, Load, Past, Join}
use Rattle.bytecode_programs.specs.declared.sample_instr.SampleInstr.TheVariants.{Compare, Shift, Not}
use Rattle.bytecode_programs.specs.declared.sample_instr.SampleInstr.TheVariants.{Reduce, Concat, Zext}
use Rattle.bytecode_programs.specs.declared.sample_instr.SampleInstr.TheVariants.{Slice, Mux, Jump}
use Rattle.bytecode_programs.specs.declared.sample_instr.SampleInstr.TheVariants.{JumpIfZero, SetAtom, Store}
use Rattle.bytecode_programs.specs.declared.sample_instr.SampleInstr.TheVariants.{Halt}
use Rattle.bytecode_programs.specs.Instructions.{leaves}
use Rattle.bytecode_programs.specs.Instructions.{FrameData, sample_flow, sample_effect}
use Rattle.verifier.specs.Rules.{sample_rules}
use Rattle.bytecode_programs.specs.Instructions.{LeadsTo}
use Rattle.verifier.specs.Typing.{IsFine, IsCodeTyped, AreShort, longest_list}
use Rattle.bytecode_programs.specs.Instructions.{frame_of}
use Rattle.bytecode_programs.specs.Values.{ProgramData}
use Rattle.verifier.specs.Programs.{all_faults, IsAccepted}
use Rattle.verifier.proofs.Acceptable.{IsAcceptable}
use Rattle.verifier.specs.declared.refusal.Refusal.{Refusal}
use Rattle.verifier.specs.declared.refusal.Refusal.TheVariants.{Memory}
use Rattle.verifier.specs.Order.{IsIn, IsFirstRefusal}
use Rattle.verifier.proofs.ProgramLaws.{longest_is_least}
use Rattle.verifier.proofs.LimitFaultLaws.{acceptable_faultless}

-- what ends the code leaves its list as it is
end_keeps : (f : FrameData) (i : SampleInstr) (ws : List ℕ) → sample_flow i ≡ Stops → sample_effect f i ws ≡ leaves ws
end_keeps f Halt ws h = refl
end_keeps f (Push w v) ws h = cc
end_keeps f (Load slot) ws h = cc
end_keeps f (Past slot k) ws h = cc
end_keeps f (Join op) ws h = cc
end_keeps f (Compare op) ws h = cc
end_keeps f (Shift op) ws h = cc
end_keeps f Not ws h = cc
end_keeps f (Reduce op) ws h = cc
end_keeps f Concat ws h = cc
end_keeps f (Zext n) ws h = cc
end_keeps f (Slice hi lo) ws h = cc
end_keeps f Mux ws h = cc
end_keeps f (Jump target) ws h = cc
end_keeps f (JumpIfZero target) ws h = cc
end_keeps f (SetAtom atom) ws h = cc
end_keeps f (Store counter) ws h = cc

longest_at : {I : Type 0} (table : ℕ → List ℕ) (pc : ℕ) (is : List I) (k : ℕ) → k < length is
    → length (table (pc + k)) ≤ longest_list table pc is
longest_at table pc [] k h = absurd (omega (arith, h))
longest_at table pc (i ∷ is) zero h = (let e : pc + 0 ≡ pc = omega arith in omega (arith, ap (λ n. length (table n)) e))
longest_at table pc (i ∷ is) (suc k) h =
    let e : pc + suc k ≡ pc + 1 + k = omega arith in
    omega (arith, longest_at table (pc + 1) is k (omega (arith, h)), ap (λ n. length (table n)) e)

same_leaves : (a b : List ℕ) → leaves a ≡ leaves b → a ≡ b
same_leaves a b h = cc

module _ (f : FrameData) (code : List SampleInstr) (table : ℕ → List ℕ)
    (typed : IsCodeTyped (sample_rules f) 0 code table)
  where
    at_most : (to : ℕ) → to < length code → length (table to) ≤ longest_list table 0 code
    at_most to h =
        (let e : 0 + to ≡ to = omega arith in omega (arith, longest_at table 0 code to h, ap (λ n. length (table n)) e))

    -- a list that is sent is that of a place of the code
    sent_at_most : (pc : ℕ) (i : SampleInstr) (fine : IsFine (sample_rules f) (0 + length code) table pc i) (to : ℕ)
        → LeadsTo (sample_flow i) pc to → length fine.after ≤ longest_list table 0 code
    sent_at_most pc i fine to leads =
        let inside = (fine.forward to leads).1 in
        omega (arith, at_most to (omega (arith, inside)), ap (length {A = ℕ}) (fine.sends to leads))

    pub left_at_most : (pc : ℕ) (i : SampleInstr) (fine : IsFine (sample_rules f) (0 + length code) table pc i)
        → pc < length code → (flow : Flow) → sample_flow i ≡ flow → length fine.after ≤ longest_list table 0 code
    left_at_most pc i fine below Stops is =
        omega (
          arith,
          at_most pc below,
          ap (length {A = ℕ}) (same_leaves (table pc) fine.after (sym (end_keeps f i (table pc) is) ∙ fine.rule)),
        )
    left_at_most pc i fine below GoesOn is =
        sent_at_most pc i fine (pc + 1) (subst (λ (g : Flow). LeadsTo g pc (pc + 1)) (sym is) refl)
    left_at_most pc i fine below (Jumps target) is =
        sent_at_most pc i fine target (subst (λ (g : Flow). LeadsTo g pc target) (sym is) refl)
    left_at_most pc i fine below (Branches target) is =
        sent_at_most pc i fine target (subst (λ (g : Flow). LeadsTo g pc target) (sym is) (inl refl))

    pub short_by_longest : longest_list table 0 code ≤ 1024 → AreShort (sample_rules f) 0 code table
    short_by_longest most = record { each = λ k i after h rule. short k i after h rule }
      where
        short : (k : ℕ) (i : SampleInstr) (after : List ℕ) → slice_get code k ≡ Some i
            → sample_effect f i (table (0 + k))
            ≡ leaves after → length after ≤ 1024
        short k i after h rule =
            let fine = typed.each k i h in
            let same = same_leaves fine.after after (sym fine.rule ∙ rule) in
            let below = slice_get_within code k i h in
            omega (
              arith,
              left_at_most (0 + k) i fine (omega (arith, below)) (sample_flow i) refl,
              most,
              ap (length {A = ℕ}) same,
            )

pub accepted : (p : ProgramData) → IsAcceptable p → IsAccepted p
accepted p a =
    record {
      disable = a.formed.disable;
      table = a.formed.table;
      sample = a.formed.sample;
      antecedent = a.formed.antecedent;
      consequent = a.formed.consequent;
      room = a.room;
      history = a.limits.history;
      stack = omega (arith, a.limits.stack, longest_is_least p a.formed.table a.formed.sample a.formed.short);
      attempts = a.limits.attempts;
      obligations = a.limits.obligations;
      budget = a.limits.budget;
    }

pub accepted_acceptable : (p : ProgramData) → IsAccepted p → IsAcceptable p
accepted_acceptable p a =
    let short = short_by_longest (frame_of p) p.sample a.table a.sample (omega (arith, a.stack, a.room.stack)) in
    record {
      formed = record {
        disable = a.disable;
        table = a.table;
        sample = a.sample;
        short = short;
        antecedent = a.antecedent;
        consequent = a.consequent;
      };
      room = a.room;
      limits = record {
        history = a.history;
        stack = omega (arith, a.stack, longest_is_least p a.table a.sample short);
        attempts = a.attempts;
        obligations = a.obligations;
        budget = a.budget;
      };
    }

-- what has a first fault isn't accepted
pub never_accepted : (p : ProgramData) (r : Refusal) → (r ≡ Memory) ⊎ IsFirstRefusal r (all_faults p) → (r ≡ Memory)
    ⊎ (IsAccepted p → ⊥)
never_accepted p r (inl m) = inl m
never_accepted p r (inr f) =
    inr (λ a. let i = subst (IsIn f.fault) (acceptable_faultless p (accepted_acceptable p a)) f.first.stands in i)
