use Rattle.compiler.proofs.SmallLaws.{small-have-code}
use Rattle.compiler.proofs.laws.small_law.Goals as goal

pub returns : goal.returns
returns c = small-have-code
