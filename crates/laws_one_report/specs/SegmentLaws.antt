-- Laws of reports over dumps in segments (own).
use Rattle.std.specs.Prelude.{◌≡◌, ℕ, List, [], Bool}
use Rattle.std.specs.List.{flat_map}
use Rattle.assertions.specs.declared.suite.Suite.{Suite}
use Rattle.vcd_reader.specs.Variables.{code_number}
use Rattle.vcd_reader.specs.Dump.{Contents}
use Rattle.report_lines.specs.Lines.{ReportData}
use Rattle.report_suites.specs.Reported.{IsBound, OverRows, Reports, rows_of}
use Rattle.cli_faults.specs.declared.fault.Fault.{Fault}
use Rattle.cli.specs.Reported.{SaysSuite, HasReport}
use Rattle.cli.specs.Outcomes.{WhyNoneByPrograms}
use Rattle.vcd_segments.specs.Segments.{Segment, small_dump, with_steps, kept_steps}
use Rattle.vcd_segments.specs.Segments.{AreRead, Follow}

-- A text says over a dump what it says over any with the same variables.
abbrev pub SuitesByVariables : Type 0
SuitesByVariables =
    (c d : Contents) (text : List ℕ) (suite : Suite) → c.variables ≡ d.variables
    → SaysSuite c text suite → SaysSuite d text suite

-- So it is with its faults, and with those of its clock and of its programs.
abbrev pub FaultsByVariables : Type 0
FaultsByVariables =
    (c d : Contents) (text : List ℕ) (fault : Fault) → c.variables ≡ d.variables
    → WhyNoneByPrograms c text fault → WhyNoneByPrograms d text fault

-- A report over the rows of a dump's segments, one after the other, is the report on the text.
abbrev pub SegmentsReport : Type 0
SegmentsReport =
    (c : Contents) (segments : List Segment) (reads : ℕ → Bool) (text : List ℕ) (suite : Suite)
    (clock : ℕ) (signals : List ℕ) (report : ReportData)
    → SaysSuite c text suite → IsBound c suite clock signals
    → AreRead c.variables (code_number c.variables clock) signals reads
    → Follow reads [] segments → c.steps ≡ flat_map (λ s. s.steps) segments
    → OverRows suite (flat_map (λ s. rows_of (small_dump c s) clock signals) segments) report
    → HasReport c text report

-- A report over what is kept of a dump is the report on the text.
abbrev pub KeptReport : Type 0
KeptReport =
    (c : Contents) (reads : ℕ → Bool) (text : List ℕ) (suite : Suite) (report : ReportData)
    → SaysSuite c text suite
    → ((clock : ℕ) (signals : List ℕ) → IsBound c suite clock signals
    → AreRead c.variables (code_number c.variables clock) signals reads)
    → Reports (with_steps c (kept_steps reads c.steps)) suite report → HasReport c text report
