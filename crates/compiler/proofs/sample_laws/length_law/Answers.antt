use Rattle.compiler.proofs.Lengths.{samples-are-short}
use Rattle.compiler.proofs.sample_laws.length_law.Goals as goal

pub returns : goal.returns
returns c = samples-are-short
