use Rattle.std.proofs.Common.{◌∙◌, arith, sym}
use Rattle.vcd_reader.proofs.HeaderLaws.{skipped-none, skipped-end, skipped-more}
use Rattle.vcd_reader.proofs.header.skipped_end.Goals as goal

pub returns-in_default-clause-skipped : goal.returns-in_default-clause-skipped
returns-in_default-clause-skipped c =
    λ opener scopes vars. c.words.invariant.same opener scopes vars
    ∙ skipped-none scopes vars _ _ c.in_default.ensures.tokens

pub returns-then-is_section_end-clause-skipped : goal.returns-then-is_section_end-clause-skipped
returns-then-is_section_end-clause-skipped c =
    λ opener scopes vars. c.words.invariant.same opener scopes vars
    ∙ skipped-end scopes vars _ _ _ c.in-Some.from _ c.in-Some.ensures.tokens (sym c.if-is_section_end.ensures)

pub words-preserved : goal.words-preserved
words-preserved c = record {
  low = omega (arith, c.in-Some.ensures.some.0, c.in-Some.ensures.some.1);
  high = c.in-Some.ensures.some.2;
  same =
      λ opener scopes vars. c.words.invariant.same opener scopes vars
      ∙ skipped-more scopes vars _ _ _ c.in-Some.from _ c.in-Some.ensures.tokens (sym c.if-is_section_end.ensures);
}
