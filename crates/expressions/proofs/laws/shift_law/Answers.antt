use Rattle.expressions.proofs.Meanings.{long_shifts}
use Rattle.expressions.proofs.laws.shift_law.Goals as goal

pub returns : goal.returns
returns c = long_shifts
