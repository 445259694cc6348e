-- What a verification of bytes comes to.
use Rattle.std.specs.Prelude.{◌≡◌, ℕ, List, false}
use Rattle.std.specs.Io.KnownBytes.{Appends}
use Rattle.signals.specs.Source.{after_failure}
use Rattle.signals.specs.Sink.{SinkState, AppendsFront}
use Rattle.bytecode_programs.specs.Values.{ProgramData}
use Rattle.report_lines.specs.declared.write.ReportFault.TheVariants as reports
use Rattle.cli_faults.specs.declared.fault.Fault.{Fault}
use Rattle.cli_faults.specs.declared.fault.Fault.TheVariants.{Report}
use Rattle.cli_faults.specs.Codes.{SpellsAccepted, WhyNotAccepted}
use Rattle.cli_bytecode.specs.Limits.{limits_text}

-- What a verification was given and what it left: the bytes, and the sink before and after.
pub record Verification : Type 0 where
  pub bytes : List ℕ
  pub sink_before : SinkState
  pub sink_after : SinkState

abbrev pub verification_of : List ℕ → SinkState → SinkState → Verification
verification_of bytes sink_before sink_after = record {
  bytes = bytes;
  sink_before = sink_before;
  sink_after = sink_after;
}

-- The bytes spell an accepted program, and the line of its limits was written and handed on. No
-- call failed.
pub record HasWrittenLimits (v : Verification) : Type 0 where
  pub program : ProgramData
  pub accepted : SpellsAccepted v.bytes program
  pub written : Appends v.sink_before.contents v.sink_after.contents
      (limits_text program.header.limits)
  pub writes : v.sink_after.failures ≡ v.sink_before.failures
  pub flushed : v.sink_after.keeps_back ≡ false

-- The bytes spell an accepted program, but the sink failed: it holds a beginning of the line of its
-- limits after what it held before.
pub record IsCutLine (v : Verification) : Type 0 where
  pub program : ProgramData
  pub accepted : SpellsAccepted v.bytes program
  pub front : AppendsFront v.sink_before.contents v.sink_after.contents
      (limits_text program.header.limits)
  pub failed : v.sink_after.failures ≡ after_failure v.sink_before.failures

-- They are refused, and nothing was written.
pub record IsRefusedCode (v : Verification) (fault : Fault) : Type 0 where
  pub why : WhyNotAccepted v.bytes fault
  pub held : v.sink_after.contents ≡ v.sink_before.contents
  pub writes : v.sink_after.failures ≡ v.sink_before.failures

-- why no line was written, or not all of it
abbrev pub WhyNotTold : Verification → Fault → Type 0
WhyNotTold v (Report reports.Write) = IsCutLine v
WhyNotTold v fault = IsRefusedCode v fault
