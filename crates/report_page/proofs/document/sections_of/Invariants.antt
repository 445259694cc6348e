use Rattle.std.proofs.Common.{take}
use Rattle.std.specs.List.{AllZip}
use Rattle.report_forms.specs.Provenances.{provenance_of}
use Rattle.report_page.specs.PageForm.{IsSectionOf}
use Rattle.report_page.proofs.document.sections_of.Given as goal

-- the sections so far
abbrev pub invariant-loop-picture : goal.invariant-loop-picture
invariant-loop-picture l =
    AllZip (IsSectionOf (provenance_of l.from)) (take l.picture-index l.pictures) l.sections.items
