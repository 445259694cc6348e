-- What a run over a source and a sink was given and what it left, and the totals that it answers.
use Rattle.std.specs.Prelude.{◌≡◌, ℕ, List, [], ◌∷◌}
use Rattle.signals.specs.Source.{SourceState, after_failure}
use Rattle.signals.specs.Sink.{SinkState, AppendsFront}
use Rattle.vcd_reader.specs.declared.fault.VcdFault.{VcdFault}
use Rattle.vcd_reader.specs.Dump.{Stands}
use Rattle.cycle_window.specs.Bound.{IsBadSize}
use Rattle.report_lines.specs.declared.line.Counts.{Counts}
use Rattle.report_lines.specs.declared.write.ReportFault.TheVariants as reports
use Rattle.cli_faults.specs.declared.fault.Fault.{Fault}
use Rattle.cli_faults.specs.declared.fault.Fault.TheVariants.{Report, Memory}

-- the counts of a report's last line, in its order
abbrev pub totals_of : Counts → List ℕ
totals_of c = c.holds ∷ c.vacuous ∷ c.fails ∷ c.disabled ∷ c.still_open ∷ []

-- Why a report is not written, or not all of it: the device failed, and holds a beginning of the
-- text after what it held before; or memory ran out, and nothing was written.
abbrev pub WhyNotWritten : SinkState → SinkState → List ℕ → Fault → Type 0
WhyNotWritten before after text (Report reports.Write) =
    (after.failures ≡ after_failure before.failures)
    × AppendsFront before.contents after.contents text
WhyNotWritten before after text Memory =
    (after.failures ≡ before.failures) × (after.contents ≡ before.contents)
WhyNotWritten before after text _ = ⊥

-- What a run was given and what it left: the text or the bytes of a program, and the source and the
-- sink before and after.
pub record Run : Type 0 where
  pub text : List ℕ
  pub source_before : SourceState
  pub source_after : SourceState
  pub sink_before : SinkState
  pub sink_after : SinkState

abbrev pub run_of : List ℕ → SourceState → SourceState → SinkState → SinkState → Run
run_of text source_before source_after sink_before sink_after = record {
  text = text;
  source_before = source_before;
  source_after = source_after;
  sink_before = sink_before;
  sink_after = sink_after;
}

-- nothing was written
pub record IsUnwritten (r : Run) : Type 0 where
  pub held : r.sink_after.contents ≡ r.sink_before.contents
  pub counted : r.sink_after.failures ≡ r.sink_before.failures

-- the dump's fault stands, and nothing was written
pub record IsUnread (r : Run) (fault : VcdFault) : Type 0 where
  pub stands : Stands r.source_before r.source_after fault
  pub unwritten : IsUnwritten r

-- memory ran out: no call failed, and nothing was written
pub record IsOutOfMemory (r : Run) : Type 0 where
  pub reads : r.source_after.failures ≡ r.source_before.failures
  pub unwritten : IsUnwritten r

-- the window's size is out of range, and nothing was read or written
pub record IsOutOfRange (window : ℕ) (r : Run) : Type 0 where
  pub size : IsBadSize window
  pub unread : r.source_after.remaining ≡ r.source_before.remaining
  pub calls : r.source_after.failures ≡ r.source_before.failures
  pub unwritten : IsUnwritten r

-- nothing was read or written
pub record IsUntouched (r : Run) : Type 0 where
  pub unread : r.source_after.remaining ≡ r.source_before.remaining
  pub calls : r.source_after.failures ≡ r.source_before.failures
  pub unwritten : IsUnwritten r
