use Rattle.std.proofs.Common.{string_bytes, take}
use Rattle.std.specs.Prelude.{flat_map}
use Rattle.report_forms.specs.declared.refused.Refused.{Refused}
use Rattle.report_forms.specs.Grown.{Grows}
use Rattle.report_forms.specs.JunitForm.{refused_text}
use Rattle.report_forms.specs.Provenances.{provenance_of}
use Rattle.report_forms.specs.Refusals.{refused_of}
use Rattle.report_forms.proofs.junit_form.push_refused_cases.Given as goal

-- the cases so far
abbrev pub invariant-loop-item : goal.invariant-loop-item
invariant-loop-item l =
    Grows (string_bytes l.fn.text) (string_bytes l.text)
    (flat_map (λ (x : Refused). refused_text (provenance_of l.from) (refused_of x)) (take l.item-index l.refused))
