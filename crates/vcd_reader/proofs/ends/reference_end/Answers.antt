use Rattle.std.proofs.Common.{◌∙◌, ◌++◌, slice_range, arith, sym}
use Rattle.vcd_reader.specs.Sections.{text_at}
use Rattle.vcd_reader.proofs.HeaderLaws.{opened, then_more, var_reference-field, more-none, more-end, more-more}
use Rattle.vcd_reader.proofs.ResumedLaws.{resumed-err}
use Rattle.vcd_reader.proofs.ends.reference_end.Goals as goal

pub returns-in_err-first-clause-reference : goal.returns-in_err-first-clause-reference
returns-in_err-first-clause-reference c =
    rw (resumed-err _ _ c.from_residual.ensures.1)
    (λ opener scopes vars h.
    var_reference-field scopes vars _ h _
    ∙ c.in_err-first.ensures.field opener (then_more scopes vars (opened opener c.args.word) h))

pub words-init : goal.words-init
words-init c = record {
  low = c.in_ok-first.ensures.high.0;
  high = c.in_ok-first.ensures.high.1;
  same = (
    text_at c.args.bytes.now c.in_ok-first.first,
    λ opener scopes vars h.
        var_reference-field scopes vars _ h _
        ∙ c.in_ok-first.ensures.field opener (then_more scopes vars (opened opener c.args.word) h),
  );
}

pub returns-in_default-clause-reference : goal.returns-in_default-clause-reference
returns-in_default-clause-reference c = λ opener scopes vars h.
    c.words.invariant.same.1 opener scopes vars h
    ∙ more-none scopes vars _ h _ _ c.in_default.ensures.tokens

pub returns-then-is_section_end-clause-reference : goal.returns-then-is_section_end-clause-reference
returns-then-is_section_end-clause-reference c = (
  c.words.invariant.same.0,
  λ opener scopes vars h.
      c.words.invariant.same.1 opener scopes vars h
      ∙ more-end scopes vars _ h _ _ _ c.in-Some.from _ c.in-Some.ensures.tokens (sym c.if-is_section_end.ensures),
)

pub words-preserved : goal.words-preserved
words-preserved c = record {
  low = omega (arith, c.words.invariant.low, c.in-Some.ensures.some.0, c.in-Some.ensures.some.1);
  high = c.in-Some.ensures.some.2;
  same = (
    c.words.invariant.same.0 ++ slice_range c.args.bytes.now c.in-Some.from c.in-Some.end,
    λ opener scopes vars h.
        c.words.invariant.same.1 opener scopes vars h
        ∙ more-more scopes vars _ h _ _ _ c.in-Some.from _ c.in-Some.ensures.tokens (sym c.if-is_section_end.ensures),
  );
}
