use Rattle.compiler_laws.proofs.FitLaws.{suites-fit}
use Rattle.compiler_laws.proofs.suite_laws.suite_law.Goals as goal

pub returns : goal.returns
returns c = suites-fit c.depth_law.ensures
