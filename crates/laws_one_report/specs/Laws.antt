-- Laws of reports.
use Rattle.std.specs.Prelude.{◌≡◌, ℕ, List}
use Rattle.vcd_reader.specs.Dump.{Contents}
use Rattle.report_lines.specs.Lines.{ReportData}
use Rattle.cli_faults.specs.declared.fault.Fault.{Fault}
use Rattle.cli_faults.specs.declared.fault.Fault.TheVariants.{Memory}
use Rattle.cli.specs.Reported.{HasReport, IsReport}
use Rattle.cli.specs.Outcomes.{WhyNoReport}

-- The bytes of a dump and the bytes of a text have at most one report.
abbrev pub ReportsAreOne : Type 0
ReportsAreOne =
    (bytes text : List ℕ) (one other : ReportData) → IsReport bytes text one
    → IsReport bytes text other → one ≡ other

-- A text that has a report over a dump's contents is refused by nothing but want of memory.
abbrev pub ReportsAreNotRefused : Type 0
ReportsAreNotRefused =
    (c : Contents) (text : List ℕ) (report : ReportData) (fault : Fault) → HasReport c text report
    → WhyNoReport c text fault → fault ≡ Memory
