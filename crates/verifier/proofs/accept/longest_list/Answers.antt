use Rattle.std.proofs.Common.{inr, Option, sym, ◌∙◌, subst, arith}
use Rattle.std.proofs.lemmas.List.{length-map}
use Rattle.std.proofs.lemmas.Result.{err_from_is_err_and}
use Rattle.verifier.specs.declared.fault.Fault.{Fault}
use Rattle.verifier.specs.Sections.{section_faults}
use Rattle.verifier.specs.Scans.{IsFirstOf}
use Rattle.verifier.specs.Marks.{found_in}
use Rattle.bytecode_programs.specs.Programs.{data_of}
use Rattle.verifier.proofs.VerifyLaws.{refused_header, room, refused_sample, refused_antecedent}
use Rattle.verifier.proofs.VerifyLaws.{refused_consequent, no_part}
use Rattle.verifier.proofs.accept.longest_list.Goals as goal

pub returns-in-Some-clause-refused : goal.returns-in-Some-clause-refused
returns-in-Some-clause-refused c =
    inr (refused_header (data_of c.args.program.now) c.in-Some.refusal (sym c.in-Some.is ∙ c.header_fault.ensures))

pub returns-in_err-longest-clause-refused : goal.returns-in_err-longest-clause-refused
returns-in_err-longest-clause-refused c =
    let p = data_of c.args.program.now in
    let q = err_from_is_err_and c.from_residual.result c.from_residual.ensures.1 in
    rw (q.1, q.2)
    (refused_sample p c.in_err-longest.field-0.0 (sym c.in-None.is ∙ c.header_fault.ensures)
    c.in_err-longest.ensures.refused)

pub section_fault-requires-clause-few : goal.section_fault-requires-clause-few
section_fault-requires-clause-few c =
    let r = room (data_of c.args.program.now) (sym c.in-None.is ∙ c.header_fault.ensures) in
    omega (arith, r.antecedent_positions, length-map c.args.program.now.antecedent.blocks.items (λ b. b.items))

pub section_fault-requires-clause-size : goal.section_fault-requires-clause-size
section_fault-requires-clause-size c =
    (room (data_of c.args.program.now) (sym c.in-None.is ∙ c.header_fault.ensures)).antecedent_code

pub returns-in-Some-2-clause-refused : goal.returns-in-Some-2-clause-refused
returns-in-Some-2-clause-refused c =
    let p = data_of c.args.program.now in
    let none_s = c.in_ok-longest.ensures.ok in
    inr (refused_antecedent p c.in-Some-2.fault.pc c.in-Some-2.fault.refusal (sym c.in-None.is ∙ c.header_fault.ensures)
    none_s
    (subst (λ (o : Option Fault). IsFirstOf (section_faults 2 p.header.atoms p.antecedent) (found_in 2 o))
    c.in-Some-2.is c.in_ok-fault.ensures))

pub section_fault-requires-2-clause-few : goal.section_fault-requires-2-clause-few
section_fault-requires-2-clause-few c =
    let r = room (data_of c.args.program.now) (sym c.in-None.is ∙ c.header_fault.ensures) in
    omega (arith, r.consequent_positions, length-map c.args.program.now.consequent.blocks.items (λ b. b.items))

pub section_fault-requires-2-clause-size : goal.section_fault-requires-2-clause-size
section_fault-requires-2-clause-size c =
    (room (data_of c.args.program.now) (sym c.in-None.is ∙ c.header_fault.ensures)).consequent_code

pub returns-in-Some-3-clause-refused : goal.returns-in-Some-3-clause-refused
returns-in-Some-3-clause-refused c =
    let p = data_of c.args.program.now in
    let none_s = c.in_ok-longest.ensures.ok in
    let none_a =
    subst (λ (o : Option Fault). IsFirstOf (section_faults 2 p.header.atoms p.antecedent) (found_in 2 o))
    c.in-None-2.is c.in_ok-fault.ensures in
    inr (refused_consequent p c.in-Some-3.fault.pc c.in-Some-3.fault.refusal (sym c.in-None.is ∙ c.header_fault.ensures)
    none_s none_a
    (subst (λ (o : Option Fault). IsFirstOf (section_faults 3 p.header.atoms p.consequent) (found_in 3 o))
    c.in-Some-3.is c.in_ok-fault-2.ensures))

pub returns-in-None-3-clause-ok : goal.returns-in-None-3-clause-ok
returns-in-None-3-clause-ok c =
    let p = data_of c.args.program.now in
    let none_s = c.in_ok-longest.ensures.ok in
    let none_a =
    subst (λ (o : Option Fault). IsFirstOf (section_faults 2 p.header.atoms p.antecedent) (found_in 2 o))
    c.in-None-2.is c.in_ok-fault.ensures in
    let none_c =
    subst (λ (o : Option Fault). IsFirstOf (section_faults 3 p.header.atoms p.consequent) (found_in 3 o))
    c.in-None-3.is c.in_ok-fault-2.ensures in
    no_part p (sym c.in-None.is ∙ c.header_fault.ensures) none_s none_a none_c

pub returns-in-None-3-clause-room : goal.returns-in-None-3-clause-room
returns-in-None-3-clause-room c = room (data_of c.args.program.now) (sym c.in-None.is ∙ c.header_fault.ensures)
