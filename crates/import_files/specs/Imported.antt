-- What becomes of a team's assertions.
use Rattle.std.specs.Prelude.{◌≡◌, ℕ, List, [], ◌++◌, map, All, true, false, Bool, not}
use Rattle.std.specs.Prelude.{string_bytes}
use Rattle.std.specs.Prelude.{if◌then◌else◌}
use Rattle.std.specs.List.{list_any}
use Rattle.import_tokens.specs.declared.token.Token.{Token}
use Rattle.import_tokens.specs.Readings.{Reads}
use Rattle.import_scopes.specs.Words.{word_places}
use Rattle.import_unrolling.specs.Unrolled.{Unrolls}
use Rattle.import_files.specs.declared.outcome.Outcome.{Outcome}
use Rattle.import_files.specs.declared.outcome.Extent.{Extent}
use Rattle.import_files.specs.declared.outcome.Extent.TheVariants as extents
use Rattle.import_files.specs.declared.outcome.Fate.{Fate}
use Rattle.import_files.specs.declared.outcome.Fate.TheVariants as fates
use Rattle.import_files.specs.declared.reading.Reading.{Reading}
use Rattle.import_files.specs.Written.{FateSays}

-- what is written of an assertion says what was opened that begins where its outcome tells, under
-- the name that this tells
abbrev pub OutcomeSays : Reading → Outcome → Type 0
OutcomeSays reading outcome =
    FateSays reading outcome.at (string_bytes outcome.name) outcome.fate

-- Each token that begins an assertion has one outcome, in their order, once generate loops are
-- written out; and each that is written says what was opened.
pub record AreOfAll (text : List ℕ) (reading : Reading) (outcomes : List Outcome) : Type 0 where
  pub tokens : List Token
  pub unrolled : List Token
  pub read : Reads text 0 tokens
  pub unrolls : Unrolls tokens unrolled
  pub each : map (λ o. o.word) outcomes ≡ word_places 0 unrolled
  pub said : All (OutcomeSays reading) outcomes

-- what is written of an assertion
abbrev pub text_in : Fate → List ℕ
text_in (fates.Written text) = text.items
text_in (fates.Halves first second) = first.text.items ++ second.text.items
text_in fates.Left = []
text_in fates.Ungenerated = []
text_in (fates.Refused cause) = []
text_in (fates.Unknown missing) = []
text_in (fates.OtherClock clock) = []

abbrev pub written_text : Outcome → List ℕ
written_text outcome = text_in outcome.fate

abbrev pub is_written : Fate → Bool
is_written (fates.Written text) = true
is_written (fates.Halves first second) = true
is_written fates.Left = false
is_written fates.Ungenerated = false
is_written (fates.Refused cause) = false
is_written (fates.Unknown missing) = false
is_written (fates.OtherClock clock) = false

abbrev pub is_refused : Fate → Bool
is_refused (fates.Written text) = false
is_refused (fates.Halves first second) = false
is_refused fates.Left = false
is_refused fates.Ungenerated = false
is_refused (fates.Refused cause) = true
is_refused (fates.Unknown missing) = true
is_refused (fates.OtherClock clock) = true

-- nothing where none is written, else a part where some are refused, else the whole
abbrev pub extent_of : List Outcome → Extent
extent_of outcomes =
    if not (list_any (λ one. is_written one.fate) outcomes) then extents.Nothing
    else if list_any (λ one. is_refused one.fate) outcomes then extents.Part
    else extents.Whole
