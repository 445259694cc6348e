use Rattle.compiler.proofs.FitLaws.{samples-fit}
use Rattle.compiler.proofs.sample_laws.fit_law.Goals as goal

pub returns : goal.returns
returns c = samples-fit
