use Rattle.std.proofs.Common.{string_bytes, take}
use Rattle.std.specs.Prelude.{flat_map}
use Rattle.report_forms.specs.Grown.{Grows}
use Rattle.report_page.proofs.document.push_sections.Given as goal

-- the sections so far
abbrev pub invariant-loop-section : goal.invariant-loop-section
invariant-loop-section l =
    Grows (string_bytes l.fn.text) (string_bytes l.text)
    (flat_map (λ s. string_bytes s) (take l.section-index l.sections))
