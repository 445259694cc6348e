-- A sequence that says: after each end of another, a third (IEEE 1800-2017, 16.12.7).
use Rattle.import_properties.specs.declared.condition.Condition.{Condition}
use Rattle.import_properties.specs.declared.condition.Condition.TheVariants.{One}
use Rattle.import_properties.specs.Properties.{sequence, implied}
use Rattle.import_properties.specs.Outcomes.{ComesToSame}
use Rattle.import_rewriting.specs.Sides.{IsConsequent}
use Rattle.assertions.specs.Written.{Written, kernel}

-- u alone comes to what a |-> s does, after each number of ticks.
pub record SaysAfterEachEnd (a s u : Written Condition) : Type 0 where
  pub fit : IsConsequent u
  pub same :
      ComesToSame (implied (kernel One a) (sequence (kernel One s))) (sequence (kernel One u))
