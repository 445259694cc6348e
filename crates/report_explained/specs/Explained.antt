-- What explanations of failed attempts say.
use Rattle.std.specs.Prelude.{◌≡◌, ℕ, ◌+◌, List, Some, map, slice_get}
use Rattle.std.specs.List.{AllByRecursion}
use Rattle.assertions.specs.declared.assertion.Assertion.{Assertion}
use Rattle.assertions.specs.declared.suite.Suite.{Suite}
use Rattle.assertions.specs.Shapes.{shape, written_form}
use Rattle.assertions.specs.Verdicts.{antecedent_of}
use Rattle.expressions.specs.declared.rows.Rows.{Rows}
use Rattle.judging.specs.Causes.{IsCause}
use Rattle.judging.specs.Courses.{value_over}
use Rattle.report_explained.specs.ExpressionText.{called_in}
use Rattle.report_explained.specs.Shown.{IsSheet}
use Rattle.report_explained.specs.declared.asked.Attempt.{Attempt}
use Rattle.report_explained.specs.declared.explanation.Judged.{Judged}
use Rattle.report_lines.specs.declared.line.Failure.{Failure}
use Rattle.report_lines.specs.declared.line.Line.{Line}
use Rattle.report_explained.specs.declared.choices.Choice.{Choice}
use Rattle.report_explained.specs.declared.selection.Wanted.{Wanted}
use Rattle.report_explained.specs.declared.explanation.Explanation.{Explanation}
use Rattle.report_explained.specs.declared.explanation.Reason.{Reason}
use Rattle.report_explained.specs.Arrows.{arrow_of}
use Rattle.report_explained.specs.Chosen.{choice_at, chosen_from}
use Rattle.report_explained.specs.Told.{HasLine}

-- what counters are called
abbrev pub counters_of : Judged → List (List ℕ)
counters_of j = map (λ t. t.now) j.counters.now

-- the failed attempt that an explanation is of
abbrev pub choice_of : Explanation → Choice
choice_of e = choice_at e.place e.failure

-- an attempt that failed, with the end of the antecedent whose obligation broke
abbrev pub attempt_of : Failure → ℕ → Attempt
attempt_of f broken = record { start = f.start; broken = broken; end = f.clock + 1 }

-- Why an attempt of an assertion failed: its cause by the clock at which it was decided, and a
-- sheet of what the assertion reads. The suite's counters have these names.
pub record IsReason (suite : Suite) (counters : List (List ℕ)) (rows : Rows) (a : Assertion)
    (f : Failure) (reason : Reason) : Type 0 where
  pub cause :
      IsCause (value_over suite rows a) (antecedent_of a) (shape a.consequent) (f.clock + 1) f.start
      reason.cause
  pub sheet :
      IsSheet suite (called_in suite counters) a (attempt_of f reason.cause.broken) rows
      reason.sheet

-- An explanation is of an assertion of the suite, and says why its attempt failed.
pub record IsExplained (suite : Suite) (counters : List (List ℕ)) (rows : Rows) (e : Explanation) :
    Type 0 where
  pub assertion : Assertion
  pub is_there : slice_get suite.assertions.items e.place ≡ Some assertion
  pub arrow : e.arrow ≡ arrow_of (written_form assertion.antecedent)
  pub reason : IsReason suite counters rows assertion e.failure e.reason

-- Explanations of those failed attempts that are asked for, in the order of the lines.
pub record AreExplained (suite : Suite) (counters : List (List ℕ)) (rows : Rows) (w : Wanted)
    (lines : List Line) (es : List Explanation) : Type 0 where
  pub chosen : map choice_of es ≡ chosen_from w 0 lines
  pub each : AllByRecursion (IsExplained suite counters rows) es
  pub placed : AllByRecursion (HasLine lines) es
