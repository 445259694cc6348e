use Rattle.expressions.proofs.Causality.{same_value}
use Rattle.expressions.proofs.laws.causality_law.Goals as goal

pub returns : goal.returns
returns c = same_value
