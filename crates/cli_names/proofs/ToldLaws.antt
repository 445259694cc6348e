-- Why nothing is told, or not all of it.
use Rattle.std.proofs.Common.{◌≡◌, ℕ, List, Result, Ok, Err}
use Rattle.std.specs.Prelude.{IfErr, IsErrAnd}
use Rattle.signals.specs.Source.{SourceState}
use Rattle.signals.specs.Sink.{SinkState}
use Rattle.report_lines.specs.declared.write.ReportFault.TheVariants.{Write}
use Rattle.report_lines.specs.declared.write.ReportFault.TheVariants as reports
use Rattle.vcd_reader.specs.Dump.{Gave}
use Rattle.cli_names.specs.declared.fault.NamesFault.{NamesFault}
use Rattle.cli_names.specs.declared.fault.NamesFault.TheVariants.{Vcd, Report, Memory}
use Rattle.cli_names.specs.declared.filter.Filter.{Filter}
use Rattle.cli_names.specs.Faults.{WhyNoTable, WhyTableUnwritten}
use Rattle.cli_names.specs.Told.{IsTableOf, WhyNotTold}

-- what holds of a fault holds where that is what is answered
pub err_is : {T E : Type 0} (r : Result T E) (fault : E) (P : E → Type 0) → IsErrAnd r (λ e. e ≡ fault) → P fault
    → IfErr r P
err_is (Ok x) fault P is h = absurd is
err_is (Err e) fault P is h = rw is h

module _ (source_before source_after : SourceState) (sink_before sink_after : SinkState) (f : Filter) where
  pub untold : sink_after ≡ sink_before → (e : NamesFault) → WhyNoTable source_before source_after e
      → WhyNotTold source_before source_after sink_before sink_after f e
  untold kept (Report e) h = absurd h
  untold kept e h = (h, kept)

  pub cut_short : (bytes table : List ℕ) (count : ℕ) → Gave source_before.remaining source_after.remaining bytes
      → source_after.failures ≡ source_before.failures → IsTableOf f bytes table count → (e : NamesFault)
      → WhyTableUnwritten sink_before sink_after table e
      → WhyNotTold source_before source_after sink_before sink_after f e
  cut_short bytes table count gave reads told (Report Write) h = record {
    bytes = bytes;
    gave = gave;
    table = table;
    count = count;
    told = told;
    reads = reads;
    cut = h;
  }
  cut_short bytes table count gave reads told (Report reports.Memory) h = absurd h
  cut_short bytes table count gave reads told (Vcd e) h = absurd h
  cut_short bytes table count gave reads told Memory h = absurd h
