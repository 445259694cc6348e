use Rattle.assertions.specs.declared.sequence.Boolean.{Boolean}
use Rattle.assertions.proofs.EmptinessLaws.{degenerate-none, none-degenerate}
use Rattle.assertions.proofs.laws.degenerate_law.Goals as goal

pub returns : goal.returns
returns c =
    λ true_one r ordered. (degenerate-none Boolean true_one r, none-degenerate Boolean true_one r ordered)
