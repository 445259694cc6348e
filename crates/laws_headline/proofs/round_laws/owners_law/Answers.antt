use Rattle.laws_headline.proofs.OwnedLaws.{dealt-have-owners}
use Rattle.laws_headline.proofs.round_laws.owners_law.Goals as goal

pub returns : goal.returns
returns c = dealt-have-owners
