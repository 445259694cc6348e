-- Faults of the command, those of a dump as such, and why each comes.
use Rattle.std.specs.Prelude.{◌≡◌, ℕ, List, Option}
use Rattle.signals.specs.Source.{SourceState}
use Rattle.signals.specs.Sink.{SinkState}
use Rattle.report_lines.specs.declared.write.ReportFault.TheVariants as reports
use Rattle.report_lines.specs.Written.{WhyUnwritten}
use Rattle.vcd_reader.specs.declared.fault.VcdFault.{VcdFault}
use Rattle.vcd_reader.specs.declared.fault.VcdFault.TheVariants as dumps
use Rattle.vcd_reader.specs.Dump.{Gave, Stands}
use Rattle.cli_names.specs.declared.fault.NamesFault.{NamesFault}
use Rattle.cli_names.specs.declared.fault.NamesFault.TheVariants.{Vcd, Report, Memory}

-- want of memory is one fault, wherever it came up
abbrev pub vcd_fault : VcdFault → NamesFault
vcd_fault dumps.Memory = Memory
vcd_fault e = Vcd e

-- bytes in memory as a source: these are left, and no call failed
abbrev pub held : Option (List ℕ) → SourceState
held left = record { remaining = left; failures = 0 }

-- the fault of a dump stands, whichever source gave these bytes
abbrev pub StandsOver : List ℕ → VcdFault → Type 0
StandsOver bytes e =
    (before after : SourceState) → Gave before.remaining after.remaining bytes
    → after.failures ≡ before.failures → Stands before after e

-- why there is no table: the dump's fault stands, or memory ran out and no call failed
abbrev pub WhyNoTable : SourceState → SourceState → NamesFault → Type 0
WhyNoTable before after (Vcd dumps.Memory) = ⊥
WhyNoTable before after (Vcd e) = Stands before after e
WhyNoTable before after (Report e) = ⊥
WhyNoTable before after Memory = after.failures ≡ before.failures

-- why there is no table of these bytes, whichever source gave them
abbrev pub WhyNoTableOver : List ℕ → NamesFault → Type 0
WhyNoTableOver bytes e =
    (before after : SourceState) → Gave before.remaining after.remaining bytes
    → after.failures ≡ before.failures → WhyNoTable before after e

-- why a table was not written, or not all of it: the sink failed, and holds a beginning of it
abbrev pub WhyTableUnwritten : SinkState → SinkState → List ℕ → NamesFault → Type 0
WhyTableUnwritten before after table (Report reports.Write) =
    WhyUnwritten before after table reports.Write
WhyTableUnwritten before after table e = ⊥
