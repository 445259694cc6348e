use Rattle.laws_one_report.proofs.CauseLaws.{faults_caused, build_faults_caused}
use Rattle.laws_one_report.proofs.laws.cause_law.Goals as goal

pub returns-clause-check : goal.returns-clause-check
returns-clause-check c = faults_caused c.small_law.ensures c.small_law-2.ensures

pub returns-clause-build : goal.returns-clause-build
returns-clause-build c = build_faults_caused c.small_law.ensures c.small_law-2.ensures
