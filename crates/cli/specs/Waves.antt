-- Explanations of failed attempts with a save file of GTKWave.
use Rattle.std.specs.Prelude.{◌≡◌, ℕ, List, length, string_bytes}
use Rattle.vcd_reader.specs.Dump.{Contents}
use Rattle.report_lines.specs.Lines.{ReportData}
use Rattle.report_forms.specs.Provenances.{ProvenanceData}
use Rattle.report_explained.specs.declared.failed_attempt.FailedAttempt.{FailedAttempt}
use Rattle.report_explained.specs.declared.selection.Wanted.{Wanted}
use Rattle.report_explained.specs.ExplainedText.{IsExplainedText}
use Rattle.report_gtkwave.specs.Views.{names_in, unit_in}
use Rattle.report_gtkwave.specs.Saves.{IsSave}
use Rattle.cli.specs.declared.explained.Explained.{Explained}
use Rattle.cli.specs.declared.waves.ShownFailures.{ShownFailures}
use Rattle.cli.specs.declared.waves.Waveform.{Waveform}
use Rattle.cli.specs.Explained.{Explains, IsToldIn}

-- The text of failed attempts and how many there are, and the save file that shows the same ones
-- over the dump of a path, whose variables GTKWave calls so.
pub record Shows (w : Waveform) (from : ProvenanceData) (told : List FailedAttempt)
    (s : ShownFailures) : Type 0 where
  pub dump : from.dump ≡ w.path.now
  pub is_text : IsExplainedText from told (string_bytes s.text)
  pub counted : s.count ≡ length told
  pub is_save : IsSave from (names_in w.waves.now) (unit_in w.waves.now) told s.save.items

-- What is shown of those failed attempts of the report on a text that are asked for.
pub record ShowsFailures (c : Contents) (text : List ℕ) (w : Wanted) (waveform : Waveform)
    (s : ShownFailures) : Type 0 where
  pub report : ReportData
  pub from : ProvenanceData
  pub told : List FailedAttempt
  pub explains : Explains c text w report from.times told
  pub shows : Shows waveform from told s

-- In memory: what is shown of explanations.
pub record IsShownIn (e : Explained) (waveform : Waveform) (s : ShownFailures) : Type 0 where
  pub told : List FailedAttempt
  pub told_in : IsToldIn e told
  pub from : ProvenanceData
  pub times : from.times ≡ e.trace.times.items
  pub shows : Shows waveform from told s
