use Rattle.laws_headline.proofs.RoundLaws.{is-round}
use Rattle.laws_headline.proofs.round_laws.round_law.Goals as goal

pub returns : goal.returns
returns c = is-round
