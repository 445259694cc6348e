use Rattle.std.proofs.Common.{◌++◌, string_bytes, take}
use Rattle.std.specs.Prelude.{codes, flat_map}
use Rattle.report_forms.specs.Grown.{Grows}
use Rattle.report_forms.specs.JunitForm.{number_text, attempt_text}
use Rattle.report_forms.specs.Provenances.{provenance_of}
use Rattle.report_forms.proofs.junit_form.push_failure.Given as goal

-- the head and the attempts so far
abbrev pub invariant-loop-failure : goal.invariant-loop-failure
invariant-loop-failure l =
    Grows (string_bytes l.fn.text) (string_bytes l.text)
    ((number_text (codes "<failure type=\"assertion\" message=\"failed attempts: ") l.fn.of.counts.fails
    ++ codes "\">\n") ++ flat_map (attempt_text (provenance_of l.from)) (take l.failure-index l.shown))
