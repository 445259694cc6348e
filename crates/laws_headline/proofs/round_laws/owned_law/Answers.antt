use Rattle.laws_headline.proofs.OwnedLaws.{owners-are-dealt}
use Rattle.laws_headline.proofs.round_laws.owned_law.Goals as goal

pub returns : goal.returns
returns c = owners-are-dealt
