-- What the command was given, and what it wrote.
use Rattle.std.specs.Prelude.{◌≡◌, ℕ, ◌^◌, ◌-◌, min, List, length, Ok, false}
use Rattle.std.specs.Io.KnownBytes.{Appends}
use Rattle.signals.specs.Source.{SourceState}
use Rattle.signals.specs.Sink.{SinkState}
use Rattle.report_lines.specs.declared.write.ReportFault.TheVariants as reports
use Rattle.report_lines.specs.Written.{WhyUnwritten}
use Rattle.vcd_reader.specs.Dump.{Contents, dump_of, Gave}
use Rattle.vcd_declarations.specs.Declarations.{declarations}
use Rattle.cli_names.specs.declared.fault.NamesFault.{NamesFault}
use Rattle.cli_names.specs.declared.fault.NamesFault.TheVariants.{Report}
use Rattle.cli_names.specs.declared.filter.Filter.{Filter}
use Rattle.cli_names.specs.declared.table.Widths as declared
use Rattle.cli_names.specs.Faults.{WhyNoTable}
use Rattle.cli_names.specs.Rows.{rows_told}
use Rattle.cli_names.specs.Tables.{Widths, table_text}

abbrev pub widths_in : declared.Widths → Widths
widths_in w = record { path = w.path; size = w.size; range = w.range; kind = w.kind }

-- The table of the bytes' declarations that are asked for, with so many rows.
pub record IsTable (f : Filter) (bytes table : List ℕ) (count : ℕ) : Type 0 where
  pub text : table
      ≡ table_text (rows_told f (declarations bytes))
      (min (length (declarations bytes)) (2 ^ 64 - 1))
  pub counted : count ≡ length (rows_told f (declarations bytes))

-- The bytes are a dump, and this is the table of its variables that are asked for.
pub record IsTableOf (f : Filter) (bytes table : List ℕ) (count : ℕ) : Type 0 where
  pub contents : Contents
  pub reads : dump_of bytes ≡ Ok contents
  pub told : IsTable f bytes table count

-- The source gave a dump, and the sink took the table of its variables that are asked for.
pub record IsTold (source_before source_after : SourceState) (sink_before sink_after : SinkState)
    (f : Filter) (count : ℕ) : Type 0 where
  pub bytes : List ℕ
  pub gave : Gave source_before.remaining source_after.remaining bytes
  pub table : List ℕ
  pub told : IsTableOf f bytes table count
  pub written : Appends sink_before.contents sink_after.contents table
  pub flushed : sink_after.keeps_back ≡ false

-- The source gave a dump, and the sink failed: after what it held, it holds a beginning of the
-- table of the dump's variables that are asked for.
pub record IsCutShort (source_before source_after : SourceState)
    (sink_before sink_after : SinkState) (f : Filter) : Type 0 where
  pub bytes : List ℕ
  pub gave : Gave source_before.remaining source_after.remaining bytes
  pub table : List ℕ
  pub count : ℕ
  pub told : IsTableOf f bytes table count
  pub reads : source_after.failures ≡ source_before.failures
  pub cut : WhyUnwritten sink_before sink_after table reports.Write

-- Why nothing is told, or not all of it: the sink failed; or there is no table, and nothing was
-- written.
abbrev pub WhyNotTold : SourceState → SourceState → SinkState → SinkState → Filter → NamesFault
    → Type 0
WhyNotTold source_before source_after sink_before sink_after f (Report reports.Write) =
    IsCutShort source_before source_after sink_before sink_after f
WhyNotTold source_before source_after sink_before sink_after f (Report reports.Memory) = ⊥
WhyNotTold source_before source_after sink_before sink_after f e =
    WhyNoTable source_before source_after e × (sink_after ≡ sink_before)
