-- What is shown of explanations in memory.
use Rattle.std.proofs.Common.{◌≡◌, ℕ, List, length, string_bytes, sym, subst}
use Rattle.vcd_reader.specs.Dump.{Contents}
use Rattle.report_lines.specs.Shown.{data_of}
use Rattle.report_explained.specs.declared.failed_attempt.FailedAttempt.{FailedAttempt}
use Rattle.report_explained.specs.declared.selection.Wanted.{Wanted}
use Rattle.report_explained.specs.ExplainedText.{IsExplainedText}
use Rattle.report_forms.specs.Provenances.{ProvenanceData}
use Rattle.report_gtkwave.specs.Views.{names_in, unit_in}
use Rattle.report_gtkwave.specs.Saves.{IsSave}
use Rattle.cli.specs.declared.explained.Explained.{Explained}
use Rattle.cli.specs.declared.waves.ShownFailures.{ShownFailures}
use Rattle.cli.specs.declared.waves.Waveform.{Waveform}
use Rattle.cli.specs.Explained.{Explains, IsExplainedOver, IsToldIn}
use Rattle.cli.specs.Waves.{IsShownIn, ShowsFailures}
use Rattle.cli.proofs.ExplainedLaws.{explains}

-- what was made of explanations shows them
pub shown_told : (e : Explained) (w : Waveform) (s : ShownFailures) (told texts saves : List FailedAttempt)
    (from : ProvenanceData) → IsToldIn e told → texts ≡ told → saves ≡ told → from.dump ≡ w.path.now
    → from.times ≡ e.trace.times.items → s.count ≡ length told
    → IsExplainedText from texts (string_bytes s.text)
    → IsSave from (names_in w.waves.now) (unit_in w.waves.now) saves s.save.items → IsShownIn e w s
shown_told e w s told texts saves from told_in same also dump times counted text save = record {
  told = told;
  told_in = told_in;
  from = from;
  times = times;
  shows = record {
    dump = dump;
    is_text = subst (λ (ts : List FailedAttempt). IsExplainedText from ts (string_bytes s.text)) same text;
    counted = counted;
    is_save = subst
        (λ (ts : List FailedAttempt). IsSave from (names_in w.waves.now) (unit_in w.waves.now) ts s.save.items) also
        save;
  };
}

-- explanations of a report shown are those of the text
pub shown : (c : Contents) (text : List ℕ) (w : Wanted) (e : Explained) (waveform : Waveform) (s : ShownFailures)
    → IsExplainedOver c text w e → IsShownIn e waveform s → ShowsFailures c text w waveform s
shown c text w e waveform s over is = record {
  report = data_of e.trace.report;
  from = is.from;
  told = is.told;
  explains = subst (λ (ts : List ℕ). Explains c text w (data_of e.trace.report) ts is.told) (sym is.times)
      (explains c text w e is.told over is.told_in);
  shows = is.shows;
}
