use Rattle.std.proofs.Common.{ap, arith}
use Rattle.bytecode_programs.specs.Values.{SectionData}
use Rattle.bytecode_programs.specs.Views.{section_data}
use Rattle.verifier.specs.Sections.{instructions_in}
use Rattle.positions.proofs.Firsts.{law-as_long}
use Rattle.compiler.proofs.program.antecedent_of.Goals as goal

pub returns-in_ok-accepting_first-clause-short : goal.returns-in_ok-accepting_first-clause-short
returns-in_ok-accepting_first-clause-short c =
    let section = section_data c.in_ok-section.section in
    let same = ap (λ (x : SectionData). instructions_in x.blocks) c.in_ok-accepting_first.ensures in
    let long = (law-as_long section).1 in
    omega (arith, same, long, c.in_ok-section.ensures.short)
