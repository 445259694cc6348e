use Rattle.compiler.proofs.Quiet.{samples-are-typed}
use Rattle.compiler.proofs.sample_laws.typing_law.Goals as goal

pub returns : goal.returns
returns c = samples-are-typed
