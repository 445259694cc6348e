-- What is told of the attempts that are explained.
use Rattle.std.specs.Prelude.{◌≡◌, ◌<◌, List, Some, length, slice_get, string_bytes}
use Rattle.report_lines.specs.declared.line.Line.{Line}
use Rattle.report_explained.specs.declared.explanation.Explanation.{Explanation}
use Rattle.report_explained.specs.declared.failed_attempt.FailedAttempt.{FailedAttempt}
use Rattle.report_explained.specs.declared.failed_attempt.Standing.{Standing}

-- there is a line of the explained attempt's assertion
abbrev pub HasLine : List Line → Explanation → Type 0
HasLine lines e = e.place < length lines

-- The name and the count are those of the assertion's line, and all else is the explanation's.
pub record IsToldBy (line : Line) (e : Explanation) (told : FailedAttempt) : Type 0 where
  pub name : told.name.now ≡ string_bytes line.name
  pub failed : told.failed ≡ line.counts.fails
  pub failure : told.failure ≡ e.failure
  pub arrow : told.arrow ≡ e.arrow
  pub ends : told.ends.now ≡ e.reason.cause.ends.items
  pub broken : told.broken ≡ e.reason.cause.broken
  pub sheet : told.sheet.now ≡ e.reason.sheet

-- The same of the lines of all assertions.
pub record IsToldOf (lines : List Line) (e : Explanation) (told : FailedAttempt) : Type 0 where
  pub line : Line
  pub is_there : slice_get lines e.place ≡ Some line
  pub told_by : IsToldBy line e told

-- The assertion stands at this place.
abbrev pub StandsAt : Standing → FailedAttempt → Type 0
StandsAt standing told = told.standing ≡ standing
