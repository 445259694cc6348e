use Rattle.compiler_laws.proofs.SmallLaws.{suites-keep_to}
use Rattle.compiler_laws.proofs.suite_laws.small_law.Goals as goal

pub returns : goal.returns
returns c = suites-keep_to
