use Rattle.std.proofs.Common.{◌≡◌, ◌++◌, ◌∙◌, ℕ, List, length, string_bytes, take, subst, ap, arith}
use Rattle.std.specs.Prelude.{codes, flat_map}
use Rattle.report_lines.specs.declared.line.Failure.{Failure}
use Rattle.report_forms.specs.Grown.{Grows}
use Rattle.report_forms.specs.JunitForm.{number_text, attempt_text, failure_text}
use Rattle.report_forms.specs.Provenances.{provenance_of}
use Rattle.report_forms.proofs.PieceLaws.{and_then, and_none, piece_more, pieces_all}
use Rattle.report_forms.proofs.junit_form.push_failure.Goals as goal

pub loop-failure-init : goal.loop-failure-init
loop-failure-init c =
    and_none (attempt_text (provenance_of c.args.from.now))
    (and_then c.in_ok-push_number.ensures c.in_ok-push_text.ensures)

pub loop-failure-preserved : goal.loop-failure-preserved
loop-failure-preserved c =
    piece_more (attempt_text (provenance_of c.args.from.now)) c.told-shown.result.now c.loop-failure.failure-index _ _ _
    _
    (number_text (codes "<failure type=\"assertion\" message=\"failed attempts: ") c.args.of.now.counts.fails
    ++ codes "\">\n") c.loop-failure-test.true c.loop-failure.invariant c.in_ok-push_attempt.ensures

pub returns : goal.returns
unfolding failure_text
returns c =
    let of = c.args.of.now in
    let one : Failure → List ℕ = attempt_text (provenance_of c.args.from.now) in
    let head =
    number_text (codes "<failure type=\"assertion\" message=\"failed attempts: ") of.counts.fails ++ codes "\">\n" in
    let shown = c.told-shown.result.now in
    let old = string_bytes c.args.text.now in
    let new = string_bytes c.push_text-2.new.text in
    let done : c.loop-failure.failure-index ≡ length shown = omega arith in
    let all = pieces_all one shown c.loop-failure.failure-index _ _ head done c.loop-failure.invariant in
    let are : shown ≡ take 10 of.fails.items =
    c.told-shown.ensures ∙ ap (λ (l : List Failure). take 10 l) c.as_slice.ensures.value in
    subst (λ (l : List Failure). Grows old new ((head ++ flat_map one l) ++ codes "</failure>\n")) are
    (and_then all c.in_ok-push_text-2.ensures)
