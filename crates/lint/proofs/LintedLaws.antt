-- Why nothing is told, or not all of it.
use Rattle.std.proofs.Common.{◌≡◌, ℕ, List, Option, Result, Ok, Err, String}
use Rattle.std.specs.Prelude.{IfErr, IsErrAnd}
use Rattle.std.specs.declared.alloc.Global.{Global}
use Rattle.signals.specs.Source.{SourceState}
use Rattle.signals.specs.Sink.{SinkState}
use Rattle.source_files.specs.declared.added.Added.{Added}
use Rattle.source_files.specs.declared.part.Part.{Part}
use Rattle.diagnostics.specs.declared.front.Refusal.{Refusal}
use Rattle.report_lines.specs.declared.write.ReportFault.TheVariants.{Write}
use Rattle.report_lines.specs.declared.write.ReportFault.TheVariants as reports
use Rattle.vcd_reader.specs.Dump.{Contents, GaveDump}
use Rattle.lint.specs.declared.fault.LintFault.{LintFault}
use Rattle.lint.specs.declared.fault.LintFault.TheVariants.{Vcd, Report, Memory}
use Rattle.lint.specs.Tells.{TellsRefusals, WhyNoText, WhyTextUnwritten, WhyNotLinted}

-- what holds of a fault holds where that is what is answered
pub err_is : {T E : Type 0} (r : Result T E) (fault : E) (P : E → Type 0) → IsErrAnd r (λ e. e ≡ fault) → P fault
    → IfErr r P
err_is (Ok x) fault P is h = absurd is
err_is (Err e) fault P is h = rw is h

module _ (text : List ℕ) (parts : List Part) (added : List Added) (source_before source_after : SourceState)
    (sink_before sink_after : SinkState) where
  pub untold : sink_after ≡ sink_before → (e : LintFault) → WhyNoText source_before source_after e
      → WhyNotLinted text parts added source_before source_after sink_before sink_after e
  untold kept (Report e) h = absurd h
  untold kept e h = (h, kept)

  pub cut_short : (c : Contents) (notes : List Refusal) (refused : ℕ) (told : List ℕ) (rest : Option (String Global))
      → GaveDump source_before.remaining source_after.remaining c → source_after.failures ≡ source_before.failures
      → TellsRefusals c.variables text parts added notes refused told rest → (e : LintFault)
      → WhyTextUnwritten sink_before sink_after told e
      → WhyNotLinted text parts added source_before source_after sink_before sink_after e
  cut_short c notes refused told rest gave reads tells (Report Write) h = record {
    contents = c;
    gave = gave;
    refused = refused;
    told = told;
    rest = rest;
    notes = notes;
    tells = tells;
    reads = reads;
    cut = h;
  }
  cut_short c notes refused told rest gave reads tells (Report reports.Memory) h = absurd h
  cut_short c notes refused told rest gave reads tells (Vcd e) h = absurd h
  cut_short c notes refused told rest gave reads tells Memory h = absurd h
