use Rattle.expressions.proofs.Causality.{counts_by_rule}
use Rattle.expressions.proofs.laws.counter_law.Goals as goal

pub returns : goal.returns
returns c = counts_by_rule
