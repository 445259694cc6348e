use Rattle.machine_batches.proofs.JoinLaws.{joins, ends-in}
use Rattle.machine_batches.proofs.laws.batches_join.Goals as goal

pub returns : goal.returns
returns c = record { join = joins; state = ends-in }
