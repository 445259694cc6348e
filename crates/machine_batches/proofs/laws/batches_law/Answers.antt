use Rattle.machine_batches.proofs.CutLaws.{cuts, ends-as}
use Rattle.machine_batches.proofs.laws.batches_law.Goals as goal

pub returns : goal.returns
returns c = record { cut = λ p s xs ys. cuts p s xs ys; state = λ p s rows. ends-as p s rows }
