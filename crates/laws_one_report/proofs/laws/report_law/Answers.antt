use Rattle.laws_one_report.proofs.OneReport.{same_report}
use Rattle.laws_one_report.proofs.laws.report_law.Goals as goal

pub returns : goal.returns
returns c = same_report
