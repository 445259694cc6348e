use Rattle.assertions.specs.declared.sequence.Boolean.{Boolean}
use Rattle.assertions.proofs.Segments.{Matches-forward, Matches-longest, is_match-Matches, Matches-is_match}
use Rattle.assertions.proofs.laws.match_law.Goals as goal

pub returns-clause-forward : goal.returns-clause-forward
returns-clause-forward c = Matches-forward Boolean

pub returns-clause-within : goal.returns-clause-within
returns-clause-within c = Matches-longest Boolean

pub returns-clause-tests : goal.returns-clause-tests
returns-clause-tests c = λ holds r i j. (is_match-Matches Boolean holds r i j, Matches-is_match Boolean holds r i j)
