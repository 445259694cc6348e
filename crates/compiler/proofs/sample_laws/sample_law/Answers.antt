use Rattle.compiler.proofs.Accepted.{samples-tell}
use Rattle.compiler.proofs.sample_laws.sample_law.Goals as goal

pub returns : goal.returns
returns c = samples-tell
