use Rattle.compiler.proofs.Meanings.{expressions-leave-values}
use Rattle.compiler.proofs.sample_laws.expression_law.Goals as goal

pub returns : goal.returns
returns c = expressions-leave-values
