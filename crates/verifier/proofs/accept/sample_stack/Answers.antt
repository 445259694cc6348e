use Rattle.std.proofs.Common.{◌≡◌, ◌⊎◌, List, [], IfOk, OnOk, IfErr, subst}
use Rattle.bytecode_programs.specs.declared.sample_instr.SampleInstr.{SampleInstr}
use Rattle.bytecode_programs.specs.Instructions.{FrameData}
use Rattle.bytecode_programs.specs.Programs.{data_of}
use Rattle.verifier.specs.declared.refusal.Refusal.TheVariants.{Memory}
use Rattle.verifier.specs.Rules.{sample_rules}
use Rattle.verifier.specs.Inference.{code_faults}
use Rattle.verifier.specs.Order.{IsFirstRefusal}
use Rattle.verifier.specs.Scans.{entry_longest}
use Rattle.verifier.specs.Views.{frame_data}
use Rattle.verifier.proofs.accept.sample_stack.Goals as goal

pub returns-clause-ok : goal.returns-clause-ok
returns-clause-ok c =
    let p = data_of c.args.program.now in
    subst (λ (f : FrameData). OnOk c.infer.result (code_faults (sample_rules f) 0 p.sample ≡ [])) c.in_ok-frame.ensures
    (subst
    (λ (is : List SampleInstr). OnOk c.infer.result
    (code_faults (sample_rules (frame_data c.in_ok-frame.frame)) 0 is ≡ [])) c.deref.ensures.value
    c.infer.ensures.ok)

pub returns-clause-longest : goal.returns-clause-longest
returns-clause-longest c =
    let p = data_of c.args.program.now in
    subst (λ (f : FrameData). IfOk c.infer.result (λ longest. longest ≡ entry_longest (sample_rules f) p.sample))
    c.in_ok-frame.ensures
    (subst
    (λ (is : List SampleInstr). IfOk c.infer.result
    (λ longest. longest ≡ entry_longest (sample_rules (frame_data c.in_ok-frame.frame)) is)) c.deref.ensures.value
    c.infer.ensures.longest)

pub returns-clause-refused : goal.returns-clause-refused
returns-clause-refused c =
    let p = data_of c.args.program.now in
    subst (λ (f : FrameData). IfErr c.infer.result
    (λ r. (r ≡ Memory) ⊎ IsFirstRefusal r (code_faults (sample_rules f) 0 p.sample))) c.in_ok-frame.ensures
    (subst
    (λ (is : List SampleInstr). IfErr c.infer.result
    (λ r. (r ≡ Memory) ⊎ IsFirstRefusal r (code_faults (sample_rules (frame_data c.in_ok-frame.frame)) 0 is)))
    c.deref.ensures.value c.infer.ensures.refused)
