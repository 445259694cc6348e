use Rattle.std.proofs.Common.{◌∙◌, arith}
use Rattle.vcd_reader.proofs.BodyLaws.{section-none, section-end, section-more}
use Rattle.vcd_reader.proofs.body.section_end.Goals as goal

pub returns-in_default-clause-section : goal.returns-in_default-clause-section
returns-in_default-clause-section c =
    λ declared len count now. c.sections.invariant.same declared len count now
    ∙ section-none declared len count now c.args.word _ c.in_default.ensures.tokens

pub returns-then-eq-clause-section : goal.returns-then-eq-clause-section
returns-then-eq-clause-section c =
    λ declared len count now. c.sections.invariant.same declared len count now
    ∙ section-end declared len count now c.args.word _ _ c.in-Some.from _ c.in-Some.ensures.tokens (cc)

pub sections-preserved : goal.sections-preserved
sections-preserved c = record {
  low = omega (arith, c.in-Some.ensures.some.0, c.in-Some.ensures.some.1);
  high = c.in-Some.ensures.some.2;
  same =
      λ declared len count now. c.sections.invariant.same declared len count now
      ∙ section-more declared len count now c.args.word _ _ c.in-Some.from _ c.in-Some.ensures.tokens (cc);
}
