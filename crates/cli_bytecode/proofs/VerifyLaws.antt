-- Why bytes are no program that may run, and why no line was written.
use Rattle.std.proofs.Common.{◌≡◌, ◌⊎◌, inl, inr, ℕ, List}
use Rattle.bytecode_programs.specs.Values.{ProgramData}
use Rattle.verifier.specs.declared.refusal.Refusal.{Refusal}
use Rattle.verifier.specs.declared.refusal.Refusal.TheVariants as refusals
use Rattle.verifier.specs.Order.{IsFirstRefusal}
use Rattle.verifier.specs.Programs.{all_faults, IsAccepted}
use Rattle.report_lines.specs.declared.write.ReportFault.{ReportFault}
use Rattle.report_lines.specs.declared.write.ReportFault.TheVariants as reports
use Rattle.report_lines.specs.Written.{WhyUnwritten}
use Rattle.cli_bytecode.specs.Limits.{limits_text}
use Rattle.cli_faults.specs.Faults.{refusal_fault, report_fault}
use Rattle.cli_faults.specs.Codes.{SpellsProgram, SpellsAccepted, IsNotAccepted, WhyNotAccepted}
use Rattle.cli_bytecode.specs.Verifications.{Verification, WhyNotTold}

or_none : {A B : Type 0} → (A → ⊥) → A ⊎ B → B
or_none none (inl a) = absurd (none a)
or_none none (inr b) = b

module _ (bytes : List ℕ) (program : ProgramData) (spells : SpellsProgram bytes program) where
  not_accepted : (r : Refusal) → (r ≡ refusals.Memory → ⊥)
      → (r ≡ refusals.Memory) ⊎ (IsAccepted program → ⊥)
      → (r ≡ refusals.Memory) ⊎ IsFirstRefusal r (all_faults program) → IsNotAccepted bytes r
  not_accepted r other refused first = record {
    program = program;
    spells = spells;
    refused = or_none other refused;
    first = or_none other first;
  }

  -- a program that the verifier refuses
  pub refused_code : (r : Refusal) → (r ≡ refusals.Memory) ⊎ (IsAccepted program → ⊥)
      → (r ≡ refusals.Memory) ⊎ IsFirstRefusal r (all_faults program)
      → WhyNotAccepted bytes (refusal_fault r)
  refused_code (refusals.Operand pc) refused first =
      not_accepted (refusals.Operand pc) (λ e. cc) refused first
  refused_code (refusals.Underflow pc) refused first =
      not_accepted (refusals.Underflow pc) (λ e. cc) refused first
  refused_code (refusals.Overflow pc) refused first =
      not_accepted (refusals.Overflow pc) (λ e. cc) refused first
  refused_code (refusals.JumpRange pc) refused first =
      not_accepted (refusals.JumpRange pc) (λ e. cc) refused first
  refused_code (refusals.BackwardJump pc) refused first =
      not_accepted (refusals.BackwardJump pc) (λ e. cc) refused first
  refused_code (refusals.JoinMismatch pc) refused first =
      not_accepted (refusals.JoinMismatch pc) (λ e. cc) refused first
  refused_code (refusals.Unreached pc) refused first =
      not_accepted (refusals.Unreached pc) (λ e. cc) refused first
  refused_code refusals.NoHalt refused first = not_accepted refusals.NoHalt (λ e. cc) refused first
  refused_code (refusals.SlotRange pc) refused first =
      not_accepted (refusals.SlotRange pc) (λ e. cc) refused first
  refused_code (refusals.HistoryTooShort least) refused first =
      not_accepted (refusals.HistoryTooShort least) (λ e. cc) refused first
  refused_code (refusals.StackTooShort least) refused first =
      not_accepted (refusals.StackTooShort least) (λ e. cc) refused first
  refused_code (refusals.Cycle position) refused first =
      not_accepted (refusals.Cycle position) (λ e. cc) refused first
  refused_code (refusals.PoolTooSmall pool least) refused first =
      not_accepted (refusals.PoolTooSmall pool least) (λ e. cc) refused first
  refused_code (refusals.BudgetTooSmall least) refused first =
      not_accepted (refusals.BudgetTooSmall least) (λ e. cc) refused first
  refused_code (refusals.LimitTooLarge field) refused first =
      not_accepted (refusals.LimitTooLarge field) (λ e. cc) refused first
  refused_code (refusals.AcceptKind pc) refused first =
      not_accepted (refusals.AcceptKind pc) (λ e. cc) refused first
  refused_code refusals.Memory refused first = tt

-- a line that was not written, or not all of it
pub unwritten_line : (v : Verification) (program : ProgramData) (f : ReportFault)
    → SpellsAccepted v.bytes program
    → WhyUnwritten v.sink_before v.sink_after (limits_text program.header.limits) f
    → WhyNotTold v (report_fault f)
unwritten_line v program reports.Write accepted h = record {
  program = program;
  accepted = accepted;
  front = h.1;
  failed = h.0;
}
unwritten_line v program reports.Memory accepted h = record { why = tt; held = h.1; writes = h.0 }
