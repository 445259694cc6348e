use Rattle.compiler.proofs.Meanings.{counters-leave-next}
use Rattle.compiler.proofs.sample_laws.counter_law.Goals as goal

pub returns : goal.returns
returns c = counters-leave-next
