use Rattle.std.proofs.Common.{inl, inr, arith}
use Rattle.std.proofs.lemmas.Bool.{cases_lt}
use Rattle.import_properties.specs.declared.condition.Condition.{Condition}
use Rattle.import_properties.specs.Outcomes.{failed, good}
use Rattle.import_properties.proofs.OutcomeLaws.{stays, never_both}
use Rattle.import_properties.proofs.laws.outcome_law.Goals as goal

pub returns-clause-stays : goal.returns-clause-stays
returns-clause-stays c = λ value p o m n at le h. stays Condition value m n le p o at h

pub returns-clause-one : goal.returns-clause-one
returns-clause-one c = λ value p m n at f g. elim (cases_lt m n) [
  | inl below ↦ never_both Condition value p n at (stays Condition value m n (omega (arith, below)) p failed at f) g
  | inr reached ↦ never_both Condition value p m at f (stays Condition value n m reached p good at g)
]
