use Rattle.assertions.specs.declared.sequence.Boolean.{Boolean}
use Rattle.assertions.specs.Segments.{always}
use Rattle.assertions.proofs.EmptinessLaws.{empty-Matches, Matches-empty}
use Rattle.assertions.proofs.laws.empty_law.Goals as goal

pub returns-clause-anywhere : goal.returns-clause-anywhere
returns-clause-anywhere c =
    λ holds true_one r i ordered.
    (empty-Matches Boolean holds true_one r i ordered, Matches-empty Boolean holds true_one r i ordered)

pub returns-clause-tests : goal.returns-clause-tests
returns-clause-tests c =
    λ true_one r ordered.
    (empty-Matches Boolean always true_one r 0 ordered, Matches-empty Boolean always true_one r 0 ordered)
