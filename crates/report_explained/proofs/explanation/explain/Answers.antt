use Rattle.std.proofs.Common.{◌≡◌, ◌∙◌, ◌+◌, ℕ, Some, sym, subst, arith}
use Rattle.std.specs.Prelude.{slice_get}
use Rattle.std.specs.List.{AllByRecursion}
use Rattle.report_explained.specs.Explained.{counters_of}
use Rattle.report_explained.specs.Failed.{IsOfFailed}
use Rattle.report_explained.proofs.FailedLaws.{each_chosen, each_line}
use Rattle.report_explained.proofs.explanation.explain.Goals as goal

pub explanations_of-requires : goal.explanations_of-requires
explanations_of-requires c =
    let suite = c.args.judged.now.suite.now in
    let rows = c.args.judged.now.rows.now in
    let all = suite.assertions.items in
    subst (AllByRecursion (IsOfFailed suite rows)) (sym (c.as_slice.ensures.value ∙ c.in_ok-choices.ensures))
    (each_chosen suite rows c.args.wanted.now c.requires.counted 0 all c.args.lines.now
    (λ k a at. let e : k ≡ 0 + k = omega arith in subst (λ (p : ℕ). slice_get all p ≡ Some a) e at)
    c.requires.judged)

pub returns : goal.returns
returns c =
    let judged = c.args.judged.now in
    record {
      chosen = c.in_ok-explanations.ensures.are ∙ c.as_slice.ensures.value ∙ c.in_ok-choices.ensures;
      each = c.in_ok-explanations.ensures.say;
      placed = each_line judged.suite.now (counters_of judged) judged.rows.now c.args.lines.now
          c.in_ok-explanations.explanations.items
          c.requires.judged c.in_ok-explanations.ensures.say;
    }
