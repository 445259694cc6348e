-- Attempts that failed: what the proofs of this crate carry from a report's lines to causes.
use Rattle.std.specs.Prelude.{◌≡◌, ◌+◌, ◌<◌, ◌≤◌, Some, length, slice_get}
use Rattle.assertions.specs.declared.assertion.Assertion.{Assertion}
use Rattle.assertions.specs.declared.suite.Suite.{Suite}
use Rattle.assertions.specs.Attempts.{Fails}
use Rattle.assertions.specs.Shapes.{shape}
use Rattle.assertions.specs.Verdicts.{antecedent_of}
use Rattle.expressions.specs.declared.rows.Rows.{Rows}
use Rattle.judging.specs.Courses.{value_over}
use Rattle.report_lines.specs.declared.line.Failure.{Failure}
use Rattle.report_explained.specs.declared.choices.Choice.{Choice}

-- The attempt of an assertion that began at a clock failed by the definition, at a clock of the
-- rows.
pub record HasFailed (suite : Suite) (rows : Rows) (a : Assertion) (f : Failure) : Type 0 where
  pub order : f.start ≤ f.clock
  pub seen : f.clock < length rows.signals
  pub fails :
      Fails (value_over suite rows a) (antecedent_of a) (shape a.consequent) (f.clock + 1) f.start

-- A choice is of a failed attempt of an assertion of the suite.
pub record IsOfFailed (suite : Suite) (rows : Rows) (c : Choice) : Type 0 where
  pub assertion : Assertion
  pub is_there : slice_get suite.assertions.items c.place ≡ Some assertion
  pub failed : HasFailed suite rows assertion c.failure
