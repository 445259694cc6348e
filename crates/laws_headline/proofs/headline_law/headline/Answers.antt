use Rattle.laws_headline.proofs.Meaning.{as-meant}
use Rattle.laws_headline.proofs.headline_law.headline.Goals as goal

pub returns-clause-meaning : goal.returns-clause-meaning
returns-clause-meaning c = λ k says.
    as-meant c.args.core.now k (c.follows_machine.ensures.follows k says)
