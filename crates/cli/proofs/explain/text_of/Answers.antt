use Rattle.std.proofs.Common.{◌∙◌, List, length, sym, ap, subst}
use Rattle.std.specs.List.{AllZip}
use Rattle.std.proofs.lemmas.Slice.Zip.{AllZip-long}
use Rattle.report_lines.specs.declared.line.Line.{Line}
use Rattle.report_explained.specs.declared.explanation.Explanation.{Explanation}
use Rattle.report_explained.specs.Told.{IsToldOf}
use Rattle.cli.specs.Explained.{IsToldIn}
use Rattle.cli.proofs.ExplainedLaws.{text_told}
use Rattle.cli.proofs.explain.text_of.Goals as goal

pub returns : goal.returns
returns c =
    let e = c.args.explained.now in
    let told = c.in_ok-told.told.items in
    let told_in : IsToldIn e told =
    subst (λ (ls : List Line). AllZip (IsToldOf ls) e.explanations.items told) c.as_slice-lines.ensures.value
    (subst (λ (es : List Explanation). AllZip (IsToldOf c.as_slice-lines.result.now) es told)
    c.as_slice-explanations.ensures.value c.in_ok-told.ensures.told) in
    let counted =
    ap (λ (es : List Explanation). length es) c.as_slice-explanations.ensures.value
    ∙ sym (AllZip-long (IsToldOf e.trace.report.lines.items) e.explanations.items told told_in) in
    text_told e told c.as_slice-3.result.now _ _ _ told_in c.as_slice-3.ensures.value c.as_slice-2.ensures.value counted
    c.in_ok-text.ensures
