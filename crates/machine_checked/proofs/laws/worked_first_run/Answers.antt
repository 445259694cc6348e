use Rattle.machine_checked.proofs.Worked.{worked-first}
use Rattle.machine_checked.proofs.laws.worked_first_run.Goals as goal

pub returns : goal.returns
returns c = worked-first
