use Rattle.std.proofs.Common.{◌≡◌, ℕ, subst, arith, length, ◌++◌}
use Rattle.std.proofs.lemmas.List.{length-map}
use Rattle.verifier.specs.declared.field.Field.TheVariants as fields
use Rattle.verifier.specs.Order.{first_refusal}
use Rattle.verifier.specs.Programs.{over}
use Rattle.bytecode_programs.specs.Programs.{data_of}
use Rattle.verifier.proofs.HeaderLaws.{front_0, front_1, front_2, front_3, front_4, front_5}
use Rattle.verifier.proofs.HeaderLaws.{front_6, front_7, front_8, front_9, front_10, front_11}
use Rattle.verifier.proofs.header.header_fault.Goals as goal

pub returns : goal.returns
returns c =
    let v = c.args.program.now in
    let p = data_of v in
    let step_0 = c.disable_fault-first.ensures in
    let step_1 = c.or_over-first.ensures (front_0 p) step_0 in
    let step_2 = c.or_over-first-2.ensures (front_1 p) step_1 in
    let step_3 = c.or_over-first-3.ensures (front_2 p) step_2 in
    let step_4 = c.or_over-first-4.ensures (front_3 p) step_3 in
    let step_5 = c.or_over-first-5.ensures (front_4 p) step_4 in
    let step_6 = c.or_over-first-6.ensures (front_5 p) step_5 in
    let step_7 =
    subst (λ (n : ℕ). c.or_over-first-7.result ≡ first_refusal (front_6 p ++ over 256 n fields.Slots))
    c.slot_count.ensures (c.or_over-first-7.ensures (front_6 p) step_6) in
    let many_8 : c.len.result ≡ length p.sample = omega (arith, c.len.ensures, v.sample.ok.0) in
    let step_8 =
    subst (λ (n : ℕ). c.or_over-first-8.result ≡ first_refusal (front_7 p ++ over 4096 n fields.Sample)) many_8
    (c.or_over-first-8.ensures (front_7 p) step_7) in
    let many_9 : c.len-2.result ≡ length p.antecedent.blocks =
    omega (arith, c.len-2.ensures, v.antecedent.blocks.ok.0, length-map v.antecedent.blocks.items (λ b. b.items))
    in
    let step_9 =
    subst (λ (n : ℕ). c.or_over-first-9.result ≡ first_refusal (front_8 p ++ over 127 n fields.AntecedentPositions))
    many_9 (c.or_over-first-9.ensures (front_8 p) step_8) in
    let step_10 = c.or_over_size-first.ensures (front_9 p) step_9 in
    let many_11 : c.len-3.result ≡ length p.consequent.blocks =
    omega (arith, c.len-3.ensures, v.consequent.blocks.ok.0, length-map v.consequent.blocks.items (λ b. b.items))
    in
    let step_11 =
    subst (λ (n : ℕ). c.or_over-first-10.result ≡ first_refusal (front_10 p ++ over 127 n fields.ConsequentPositions))
    many_11 (c.or_over-first-10.ensures (front_10 p) step_10) in
    let step_12 = c.or_over_size.ensures (front_11 p) step_11 in
    step_12
