use Rattle.expressions.proofs.Meanings.{concats_keep_parts}
use Rattle.expressions.proofs.laws.concat_law.Goals as goal

pub returns : goal.returns
returns c = concats_keep_parts
