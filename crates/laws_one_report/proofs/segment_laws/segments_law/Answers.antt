use Rattle.laws_one_report.proofs.ReportLaws.{segments-report, kept-report}
use Rattle.laws_one_report.proofs.segment_laws.segments_law.Goals as goal

pub returns : goal.returns
returns c = record {
  segments = segments-report c.join_law.ensures;
  kept = kept-report c.kept_law.ensures.rows;
}
