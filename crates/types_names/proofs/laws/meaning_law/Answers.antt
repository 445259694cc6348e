use Rattle.types_names.proofs.MeaningLaws.{mean-width}
use Rattle.types_names.proofs.OneMeaning.{one-meaning}
use Rattle.types_names.proofs.laws.meaning_law.Goals as goal

pub returns-clause-widths : goal.returns-clause-widths
returns-clause-widths c = mean-width

pub returns-clause-one : goal.returns-clause-one
returns-clause-one c = λ s cs t e f m n x k w. (one-meaning x s cs t e f m n).value k w
