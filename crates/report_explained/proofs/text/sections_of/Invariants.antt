use Rattle.std.proofs.Common.{take}
use Rattle.std.specs.List.{AllZip}
use Rattle.report_forms.specs.Provenances.{provenance_of}
use Rattle.report_explained.specs.ExplainedText.{IsSectionOf}
use Rattle.report_explained.proofs.text.sections_of.Given as goal

-- the sections so far
abbrev pub invariant-loop-attempt : goal.invariant-loop-attempt
invariant-loop-attempt l =
    AllZip (IsSectionOf (provenance_of l.from)) (take l.attempt-index l.attempts) l.sections.items
