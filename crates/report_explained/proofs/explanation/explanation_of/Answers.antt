use Rattle.std.proofs.Common.{◌≡◌, ◌∙◌, Some, sym, ap, subst}
use Rattle.std.proofs.lemmas.Option.{get_or_from_slice_get}
use Rattle.assertions.specs.declared.assertion.Assertion.{Assertion}
use Rattle.report_explained.specs.Failed.{HasFailed}
use Rattle.report_explained.proofs.explanation.explanation_of.Goals as goal

pub reason_of-requires : goal.reason_of-requires
reason_of-requires c =
    let judged = c.args.judged.now in
    let same : c.index-assertion.result.now ≡ c.requires.assertion =
    c.index-assertion.ensures
    ∙ get_or_from_slice_get (c.args.judged.now.suite.now.assertions.items) c.args.choice.now.place c.requires.assertion
    c.index-assertion.result.now c.requires.is_there in
    subst (λ (a : Assertion). HasFailed judged.suite.now judged.rows.now a c.args.choice.now.failure) (sym same)
    c.requires.failed

pub returns-clause-says : goal.returns-clause-says
returns-clause-says c =
    let same : c.index-assertion.result.now ≡ c.requires.assertion =
    c.index-assertion.ensures
    ∙ get_or_from_slice_get (c.args.judged.now.suite.now.assertions.items) c.args.choice.now.place c.requires.assertion
    c.index-assertion.result.now c.requires.is_there in
    record {
      assertion = c.index-assertion.result.now;
      is_there = c.requires.is_there ∙ ap (λ (a : Assertion). Some a) (sym same);
      arrow = c.arrow_of.ensures;
      reason = c.in_ok-reason.ensures;
    }
