-- What a report in memory says.
use Rattle.std.specs.Prelude.{map}
use Rattle.report_lines.specs.declared.report.Report.{Report}
use Rattle.report_lines.specs.Lines.{ReportData, line}

abbrev pub data_of : Report → ReportData
data_of r = record { clocks = r.clocks; lines = map line r.lines.items; total = r.total }
