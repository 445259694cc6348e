use Rattle.laws_headline.proofs.ThreadLaws.{same-round, taken-in-order}
use Rattle.laws_headline.proofs.round_laws.thread_round_law.Goals as goal

pub returns-clause-steps : goal.returns-clause-steps
returns-clause-steps c = same-round

pub returns-clause-order : goal.returns-clause-order
returns-clause-order c = taken-in-order
