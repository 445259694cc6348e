use Rattle.laws_one_report.proofs.FrontLaws.{says-by, faults-by}
use Rattle.laws_one_report.proofs.segment_laws.front_law.Goals as goal

pub returns : goal.returns
returns c = record {
  says = λ c d text suite same. says-by c d text same suite;
  refused = λ c d text fault same. faults-by c d text same fault;
}
