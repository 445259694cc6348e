use Rattle.compiler.proofs.NarrowLaws.{programs-are-narrow}
use Rattle.compiler.proofs.sample_laws.narrow_law.Goals as goal

pub returns : goal.returns
returns c = programs-are-narrow
