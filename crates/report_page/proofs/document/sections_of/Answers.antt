use Rattle.std.proofs.Common.{subst}
use Rattle.report_forms.specs.Provenances.{provenance_of}
use Rattle.report_explained.specs.declared.failed_attempt.FailedAttempt.{FailedAttempt}
use Rattle.report_page.specs.PageForm.{IsSectionOf}
use Rattle.report_explained.proofs.ZipLaws.{zip_more}
use Rattle.report_page.proofs.document.sections_of.Goals as goal

pub loop-picture-preserved : goal.loop-picture-preserved
loop-picture-preserved c =
    let p = provenance_of c.args.from.now in
    let made = c.in_ok-section_of.field-0 in
    zip_more (IsSectionOf p) c.args.pictures.now c.loop-picture.picture-index c.picture-item.result made
    c.loop-picture.sections.items c.push.new.self.items c.loop-picture-test.true c.in_ok-push.ensures.items
    (subst (λ (x : FailedAttempt). IsSectionOf p x made) c.picture-item.is c.in_ok-section_of.ensures)
    c.loop-picture.invariant
