-- A report as the XML that JUnit's readers take.
use Rattle.std.specs.Prelude.{ℕ, List, [], ◌∷◌, ◌++◌, if◌then◌else◌, codes, decimal, length, take}
use Rattle.std.specs.Prelude.{count_by, flat_map}
use Rattle.report_lines.specs.declared.line.Counts.{Counts}
use Rattle.report_lines.specs.declared.line.Failure.{Failure}
use Rattle.report_lines.specs.Lines.{LineData, ReportData}
use Rattle.report_forms.specs.Provenances.{ProvenanceData, time_at}
use Rattle.report_forms.specs.Refusals.{RefusedData}
use Rattle.report_forms.specs.Outcomes.{has_failed, is_untried}
use Rattle.report_forms.specs.Escapes.{escaped}

-- a label and a number in decimal
abbrev pub number_text : List ℕ → ℕ → List ℕ
number_text label n = label ++ decimal n

-- an attribute, whose name is the label's end
unfoldable pub attribute : List ℕ → List ℕ → List ℕ
attribute label value = label ++ escaped value ++ codes "\""

-- a clock and its time: clock C (#T)
unfoldable pub clock_text : ProvenanceData → List ℕ → ℕ → List ℕ
clock_text p label clock =
    number_text label clock ++ number_text (codes " (#") (time_at p clock) ++ codes ")"

-- an attempt that failed
unfoldable pub attempt_text : ProvenanceData → Failure → List ℕ
attempt_text p f =
    clock_text p (codes "began at clock ") f.start
    ++ clock_text p (codes ", decided at clock ") f.clock ++ codes "\n"

-- the first failed attempts, 10 at most, and how many there are
unfoldable pub failure_text : ProvenanceData → LineData → List ℕ
failure_text p l =
    number_text (codes "<failure type=\"assertion\" message=\"failed attempts: ") l.counts.fails
    ++ codes "\">\n" ++ flat_map (attempt_text p) (take 10 l.fails) ++ codes "</failure>\n"

-- whether it failed or was never tried
abbrev pub outcome_text : ProvenanceData → LineData → List ℕ
outcome_text p l =
    if has_failed l then failure_text p l
    else if is_untried l then codes "<skipped message=\"never tried\"/>\n"
    else []

-- how many attempts came to each verdict
unfoldable pub counts_text : Counts → List ℕ
counts_text c =
    number_text (codes "<system-out>holds ") c.holds ++ number_text (codes " vacuous ") c.vacuous
    ++ number_text (codes " fails ") c.fails ++ number_text (codes " disabled ") c.disabled
    ++ number_text (codes " open ") c.still_open ++ codes "</system-out>\n"

-- an assertion
unfoldable pub case_text : ProvenanceData → LineData → List ℕ
case_text p l =
    attribute (codes "<testcase name=\"") l.name ++ attribute (codes " classname=\"") p.text
    ++ codes ">\n" ++ outcome_text p l ++ counts_text l.counts ++ codes "</testcase>\n"

-- the head of a document of one suite: how many assertions there are, failed, and were never tried
unfoldable pub suite_text : ProvenanceData → ReportData → List ℕ
suite_text p r =
    codes "<?xml version=\"1.0\" encoding=\"UTF-8\"?>\n<testsuites>\n"
    ++ attribute (codes "<testsuite name=\"") p.dump
    ++ number_text (codes " tests=\"") (length r.lines)
    ++ number_text (codes "\" failures=\"") (count_by has_failed r.lines)
    ++ number_text (codes "\" errors=\"0\" skipped=\"") (count_by is_untried r.lines)
    ++ number_text (codes "\">\n<properties>\n<property name=\"clocks\" value=\"") r.clocks
    ++ codes "\"/>\n</properties>\n"

-- an item that is refused, as a case with an error
unfoldable pub refused_text : ProvenanceData → RefusedData → List ℕ
refused_text p r =
    attribute (codes "<testcase name=\"") r.place ++ attribute (codes " classname=\"") p.text
    ++ attribute (codes ">\n<error type=\"refused\" message=\"") r.reason
    ++ codes "/>\n</testcase>\n"

-- the head of a suite of so many items that are refused
unfoldable pub refused_head : ℕ → List ℕ
refused_head count =
    number_text (codes "<testsuite name=\"refused\" tests=\"") count
    ++ number_text (codes "\" failures=\"0\" errors=\"") count
    ++ codes "\" skipped=\"0\">\n"

-- a suite of those that are refused, if there are some
abbrev pub refused_suite : ProvenanceData → List RefusedData → List ℕ
refused_suite p [] = []
refused_suite p (r ∷ rs) =
    refused_head (length (r ∷ rs)) ++ flat_map (refused_text p) (r ∷ rs) ++ codes "</testsuite>\n"

-- the whole document: a suite of the report, and one of what is refused
unfoldable pub junit_text : ProvenanceData → List RefusedData → ReportData → List ℕ
junit_text p rs r =
    suite_text p r ++ flat_map (case_text p) r.lines ++ codes "</testsuite>\n" ++ refused_suite p rs
    ++ codes "</testsuites>\n"
