use Rattle.std.proofs.Common.{◌≡◌, ◌<◌, ◌∙◌, inl, sym, subst, ap, arith}
use Rattle.bytecode_programs.specs.Values.{SectionData}
use Rattle.bytecode_programs.specs.Views.{section_data}
use Rattle.verifier.specs.Sections.{instructions_in}
use Rattle.assertions.specs.declared.sequence.Boolean.TheVariants.{One}
use Rattle.assertions.specs.Shapes.{written_form}
use Rattle.positions.specs.declared.fault.SectionFault.TheVariants.{TooLong}
use Rattle.positions.specs.Laws.{section_for}
use Rattle.positions.specs.Lengths.{HasLongSection}
use Rattle.positions.specs.Rows.{IsClosedTable, sift_data}
use Rattle.positions.specs.Sequences.{atom_of, coded_section}
use Rattle.positions.proofs.ResultLaws.{ok_view, err_view}
use Rattle.positions.proofs.SequenceLaws.{kept-placed, kept-for}
use Rattle.positions.proofs.section.positions_of.Goals as goal

pub section_at-requires : goal.section_at-requires
section_at-requires c =
    subst IsClosedTable (sym (c.in_ok-kept.ensures ∙ ap sift_data c.in_ok-table.ensures.ok))
    (kept-placed (written_form c.args.sequence.now) c.requires.ordered c.requires.bound)

pub returns-clause-ok : goal.returns-clause-ok
returns-clause-ok c =
    ok_view section_data c.section_at.result _ (section_for atom_of One (written_form c.args.sequence.now))
    c.section_at.ensures.made
    (ap coded_section
    (c.in_ok-kept.ensures ∙ ap sift_data c.in_ok-table.ensures.ok
    ∙ sym (kept-for (written_form c.args.sequence.now))))

pub returns-clause-err : goal.returns-clause-err
returns-clause-err c =
    let same : coded_section c.in_ok-kept.kept ≡ section_for atom_of One (written_form c.args.sequence.now) =
    ap coded_section
    (c.in_ok-kept.ensures ∙ ap sift_data c.in_ok-table.ensures.ok
    ∙ sym (kept-for (written_form c.args.sequence.now))) in
    err_view (λ fault. fault ≡ TooLong → 4096 < instructions_in (coded_section c.in_ok-kept.kept).blocks)
    (λ fault. fault ≡ TooLong → HasLongSection (written_form c.args.sequence.now)) c.section_at.result
    c.section_at.ensures.err
    (λ fault long is. inl (subst (λ (s : SectionData). 4096 < instructions_in s.blocks) same (long is)))
