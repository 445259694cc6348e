use Rattle.std.proofs.Common.{subst}
use Rattle.report_forms.specs.Provenances.{provenance_of}
use Rattle.report_explained.specs.declared.failed_attempt.FailedAttempt.{FailedAttempt}
use Rattle.report_explained.specs.ExplainedText.{IsSectionOf}
use Rattle.report_explained.proofs.ZipLaws.{zip_more}
use Rattle.report_explained.proofs.text.sections_of.Goals as goal

pub loop-attempt-preserved : goal.loop-attempt-preserved
loop-attempt-preserved c =
    let p = provenance_of c.args.from.now in
    let made = c.in_ok-section_of.field-0 in
    zip_more (IsSectionOf p) c.args.attempts.now c.loop-attempt.attempt-index c.attempt-item.result made
    c.loop-attempt.sections.items c.push.new.self.items c.loop-attempt-test.true c.in_ok-push.ensures.items
    (subst (λ (x : FailedAttempt). IsSectionOf p x made) c.attempt-item.is c.in_ok-section_of.ensures)
    c.loop-attempt.invariant
