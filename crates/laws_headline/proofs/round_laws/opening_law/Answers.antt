use Rattle.laws_headline.proofs.OpeningLaws.{rests-at-first}
use Rattle.laws_headline.proofs.round_laws.opening_law.Goals as goal

pub returns : goal.returns
returns c = rests-at-first
