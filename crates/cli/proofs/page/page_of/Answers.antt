use Rattle.std.proofs.Common.{ℕ, List, subst}
use Rattle.std.specs.List.{AllZip}
use Rattle.report_lines.specs.declared.line.Line.{Line}
use Rattle.report_lines.specs.Shown.{data_of}
use Rattle.report_explained.specs.declared.explanation.Explanation.{Explanation}
use Rattle.report_explained.specs.declared.failed_attempt.FailedAttempt.{FailedAttempt}
use Rattle.report_explained.specs.Told.{IsToldOf}
use Rattle.report_page.specs.PageForm.{IsPage}
use Rattle.cli.specs.Explained.{IsToldIn, from_paths}
use Rattle.cli.proofs.page.page_of.Goals as goal

pub returns : goal.returns
returns c =
    let e = c.args.explained.now in
    let paths = c.args.paths.now in
    let told = c.in_ok-told.told.items in
    let bytes = c.in_ok-bytes.bytes.items in
    let told_in : IsToldIn e told =
    subst (λ (ls : List Line). AllZip (IsToldOf ls) e.explanations.items told) c.as_slice-lines.ensures.value
    (subst (λ (es : List Explanation). AllZip (IsToldOf c.as_slice-lines.result.now) es told)
    c.as_slice-explanations.ensures.value c.in_ok-told.ensures.told) in
    record {
      told = told;
      told_in = told_in;
      is_page = subst (λ (ts : List ℕ). IsPage (from_paths paths ts) (data_of e.trace.report) told bytes)
          c.as_slice-2.ensures.value
          (subst (λ (ts : List FailedAttempt). IsPage (from_paths paths c.as_slice-2.result.now)
          (data_of e.trace.report) ts bytes) c.as_slice-3.ensures.value c.in_ok-bytes.ensures);
    }
