use Rattle.machine_checked.proofs.Worked.{worked}
use Rattle.machine_checked.proofs.laws.worked_run.Goals as goal

pub returns : goal.returns
returns c = worked
