use Rattle.import_checks.proofs.HalfLaws.{implied-both, later-both, each_later-both}
use Rattle.import_checks.proofs.laws.halves_law.Goals as goal

pub returns-clause-ends : goal.returns-clause-ends
returns-clause-ends c = λ r p q leaves n o at. implied-both r p q leaves n o at

pub returns-clause-ticks : goal.returns-clause-ticks
returns-clause-ticks c = λ k p q leaves n o at. later-both k p q leaves n o at

pub returns-clause-ranges : goal.returns-clause-ranges
returns-clause-ranges c = λ first more p q leaves n o at. each_later-both first more p q leaves n o at
