-- What is promised of the texts that are written.
use Rattle.std.specs.Prelude.{◌≡◌, ℕ, List, Bool, Option, is_some, unwrap_or, string_bytes}
use Rattle.std.specs.Prelude.{option_map}
use Rattle.assertions.specs.Written.{Written}
use Rattle.import_trees.specs.declared.expression.Path.{Path}
use Rattle.import_elaboration.specs.declared.opener.Parts.{Parts}
use Rattle.import_elaboration.specs.declared.opening.Opened.{Opened}
use Rattle.import_properties.specs.declared.condition.Condition.{Condition}
use Rattle.import_properties.specs.declared.property.Property.{Property}
use Rattle.import_properties.specs.Properties.{form_of, both}
use Rattle.import_checks.specs.Meanings.{IsMeaning}
use Rattle.import_rewriting.specs.Rewriting.{IsRewriting}
use Rattle.import_expressions.specs.Paths.{spelled_path}
use Rattle.import_text.specs.Texts.{SaysRewriting}
use Rattle.import_files.specs.declared.reading.Reading.{Reading}
use Rattle.import_files.specs.declared.outcome.Half.{Half}
use Rattle.import_files.specs.declared.outcome.Fate.{Fate}
use Rattle.import_files.specs.declared.outcome.Fate.TheVariants as fates

-- the whole path of a name, as files are read
abbrev pub whole_path : Reading → Path → List ℕ
whole_path reading path = spelled_path (option_map (λ s. s.now) reading.scope) path.tokens.now

-- A text's only assertion, of this label and this clock, says the rewriting of a property, which
-- fails, and is good, at the same ticks on every trace (`import_rewriting`); with no bound given,
-- it is 127. And it has a `disable iff`, or has none.
pub record SaysProperty (bound : Option ℕ) (property : Property) (clock : List ℕ) (disabled : Bool)
    (label text : List ℕ) : Type 0 where
  pub antecedent : Written Condition
  pub consequent : Written Condition
  pub rewriting : IsRewriting (unwrap_or bound 127) property antecedent consequent
  pub says : SaysRewriting label clock disabled antecedent consequent text

-- A text says, under this label, the property that an assertion means that was opened, which
-- begins at this byte (`import_checks`), by the clock of that, and has a `disable iff` where that
-- has one.
pub record SaysOpened (reading : Reading) (at : ℕ) (label text : List ℕ) : Type 0 where
  pub opening : Parts
  pub opened : Opened
  pub there : opened.at ≡ at
  pub property : Property
  pub meaning : IsMeaning opening reading.bound opened.body (form_of property)
  pub says :
      SaysProperty reading.bound property (whole_path reading opened.clock)
      (is_some opened.disable) label text

-- What is written of two halves says two properties, each under the label of its half and by the
-- clock of an assertion that was opened, which begins at this byte, and which are together what
-- that means: that one and the other.
pub record HalvesSayOpened (reading : Reading) (at : ℕ) (one other : Half) : Type 0 where
  pub opening : Parts
  pub opened : Opened
  pub there : opened.at ≡ at
  pub first : Property
  pub second : Property
  pub meaning :
      IsMeaning opening reading.bound opened.body (both (form_of first) (form_of second))
  pub first_says :
      SaysProperty reading.bound first (whole_path reading opened.clock)
      (is_some opened.disable) (string_bytes one.name) one.text.items
  pub second_says :
      SaysProperty reading.bound second (whole_path reading opened.clock)
      (is_some opened.disable) (string_bytes other.name) other.text.items

-- What is written, if it is, says what was opened that begins at this byte, under this label, or as
-- two halves, each under its own.
abbrev pub FateSays : Reading → ℕ → List ℕ → Fate → Type 0
FateSays reading at label (fates.Written text) = SaysOpened reading at label text.items
FateSays reading at label (fates.Halves one other) = HalvesSayOpened reading at one other
FateSays reading at label fates.Left = Unit {0}
FateSays reading at label fates.Ungenerated = Unit {0}
FateSays reading at label (fates.Refused cause) = Unit {0}
FateSays reading at label (fates.Unknown missing) = Unit {0}
FateSays reading at label (fates.OtherClock clock) = Unit {0}
