use Rattle.machine_checked.proofs.Machine.{never, never-count}
use Rattle.machine_checked.proofs.laws.never_traps.Goals as goal

pub returns : goal.returns
returns c =
    record
    { reached = λ p accepted rows. never p accepted rows; few = λ p accepted rows. never-count p accepted rows }
