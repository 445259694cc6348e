-- What a run over a source, a text and a sink comes to.
use Rattle.std.specs.Prelude.{◌≡◌, ℕ, ◌≤◌, List, string_bytes, false}
use Rattle.std.specs.Io.KnownBytes.{Appends}
use Rattle.signals.specs.Source.{SourceState, after_failure}
use Rattle.signals.specs.Sink.{AppendsFront}
use Rattle.lexer.specs.declared.token.Token.{Token}
use Rattle.lexer.specs.Covering.{IsFaulty}
use Rattle.parser_grammar.specs.Trees.{ItemForm}
use Rattle.parser_grammar.specs.Files.{IsFile}
use Rattle.assertions.specs.declared.suite.Suite.{Suite}
use Rattle.parser.specs.declared.fault.ParseFault.{ParseFault}
use Rattle.parser.specs.declared.fault.ParseFault.TheVariants as parsing
use Rattle.parser.specs.Faults.{IsPlaced}
use Rattle.types.specs.declared.fault.TypeFault.{TypeFault}
use Rattle.types.specs.declared.fault.TypeFault.TheVariants as types
use Rattle.types.specs.Faults.{IsFirst}
use Rattle.compiler.specs.declared.fault.CompileFault.{CompileFault}
use Rattle.compiler.specs.declared.fault.CompileFault.TheVariants as compiles
use Rattle.report_programs.specs.Faults.{HasNoProgram, HasBadCount}
use Rattle.vcd_reader.specs.declared.fault.VcdFault.TheVariants as dumps
use Rattle.vcd_reader.specs.Dump.{Contents, Gave, GaveDump}
use Rattle.vcd_reader.specs.declared.dump.Dump.{Dump}
use Rattle.vcd_reader.specs.Held.{ReadsAs}
use Rattle.cycle_window.specs.declared.fault.WindowFault.{WindowFault}
use Rattle.cycle_window.specs.declared.fault.WindowFault.TheVariants as windows
use Rattle.cycle_window.specs.Bound.{HasClock, IsClockFault}
use Rattle.report_lines.specs.declared.write.ReportFault.TheVariants as reports
use Rattle.report_lines.specs.Lines.{ReportData}
use Rattle.report_lines.specs.Texts.{report_text}
use Rattle.cli_faults.specs.declared.fault.Fault.{Fault}
use Rattle.cli_faults.specs.declared.fault.Fault.TheVariants.{Vcd, Lex, Parse, Typing, Compile}
use Rattle.cli_faults.specs.declared.fault.Fault.TheVariants.{BadSize, BadWorkers, BadJob, Window}
use Rattle.cli_faults.specs.declared.fault.Fault.TheVariants.{Report}
use Rattle.cli_faults.specs.declared.fault.Fault.TheVariants.{Memory}
use Rattle.cli_faults.specs.Runs.{Run, totals_of, IsUnwritten, IsUnread, IsOutOfMemory}
use Rattle.cli_faults.specs.Runs.{IsOutOfRange, IsUntouched}
use Rattle.workers_core.specs.Values.{IsBadTeam}
use Rattle.suite_over_dump.specs.Suites.{scope_over}
use Rattle.cli.specs.Reported.{AreTokens, HasItems, SaysSuite, IsReport}

-- The source gave all its bytes, and the text of the report on them and on the text was written and
-- handed on; the totals are its last line's. No call failed.
pub record IsAnswered (r : Run) (totals : List ℕ) : Type 0 where
  pub bytes : List ℕ
  pub gave : Gave r.source_before.remaining r.source_after.remaining bytes
  pub report : ReportData
  pub is_report : IsReport bytes r.text report
  pub written : Appends r.sink_before.contents r.sink_after.contents (report_text report)
  pub totals_are : totals ≡ totals_of report.total
  pub reads : r.source_after.failures ≡ r.source_before.failures
  pub writes : r.sink_after.failures ≡ r.sink_before.failures
  pub flushed : r.sink_after.keeps_back ≡ false

-- The source gave a dump: all its bytes, which say what the dump holds. No call failed.
pub record WasRead (before after : SourceState) (dump : Dump) : Type 0 where
  pub said : ReadsAs before.remaining after.remaining dump
  pub reads : after.failures ≡ before.failures

-- the text has tokens, no file spells them, and the fault stands at one of them
pub record HasNoItems (text : List ℕ) (fault : ParseFault) : Type 0 where
  pub tokens : List Token
  pub cut : AreTokens text tokens
  pub none : (items : List ItemForm) → IsFile items tokens → ⊥
  pub placed : IsPlaced tokens fault

-- The text spells items, and the fault is the first of types in them.
pub record IsMistyped (c : Contents) (text : List ℕ) (fault : TypeFault) : Type 0 where
  pub items : List ItemForm
  pub spelled : HasItems text items
  pub first : IsFirst (scope_over c.variables items) items fault

-- the text says a suite whose clock is none
pub record HasNoClock (c : Contents) (text : List ℕ) (fault : WindowFault) : Type 0 where
  pub suite : Suite
  pub says : SaysSuite c text suite
  pub why : IsClockFault c.variables (string_bytes suite.clock) fault

-- why a text has no items
abbrev pub WhyNoItems : List ℕ → Fault → Type 0
WhyNoItems text (Lex e) = IsFaulty 0 text e
WhyNoItems text (Parse parsing.Memory) = ⊥
WhyNoItems text (Parse e) = HasNoItems text e
WhyNoItems text Memory = Unit {0}
WhyNoItems text _ = ⊥

-- why items say no suite
abbrev pub WhyNotTyped : Contents → List ItemForm → TypeFault → Type 0
WhyNotTyped c items types.Memory = Unit {0}
WhyNotTyped c items fault = IsFirst (scope_over c.variables items) items fault

-- why a text has no report over these contents
abbrev pub WhyNoReport : Contents → List ℕ → Fault → Type 0
WhyNoReport c text (Lex e) = IsFaulty 0 text e
WhyNoReport c text (Parse parsing.Memory) = ⊥
WhyNoReport c text (Parse e) = HasNoItems text e
WhyNoReport c text (Typing e) = IsMistyped c text e
WhyNoReport c text (Window windows.NoClock) = HasNoClock c text windows.NoClock
WhyNoReport c text (Window windows.ClockWidth) = HasNoClock c text windows.ClockWidth
WhyNoReport c text Memory = Unit {0}
WhyNoReport c text _ = ⊥

-- The text says a suite that has a clock, and the fault is that of an assertion of it, before which
-- all have programs.
pub record IsNotCompiled (c : Contents) (text : List ℕ) (fault : CompileFault) : Type 0 where
  pub suite : Suite
  pub says : SaysSuite c text suite
  pub clock : HasClock c.variables (string_bytes suite.clock)
  pub why : HasNoProgram suite fault

-- The text says a suite that has a clock and whose assertions have programs, but too many.
pub record HasNoJob (c : Contents) (text : List ℕ) : Type 0 where
  pub suite : Suite
  pub says : SaysSuite c text suite
  pub clock : HasClock c.variables (string_bytes suite.clock)
  pub why : HasBadCount suite

-- why a text has no report by programs: it has none at all, one of its assertions has no program,
-- or there are too many
abbrev pub WhyNoneByPrograms : Contents → List ℕ → Fault → Type 0
WhyNoneByPrograms c text (Compile compiles.Memory) = ⊥
WhyNoneByPrograms c text (Compile e) = IsNotCompiled c text e
WhyNoneByPrograms c text BadJob = HasNoJob c text
WhyNoneByPrograms c text fault = WhyNoReport c text fault

-- the source gave a dump over which the text has no report, and nothing was written
pub record IsRefusedReport (r : Run) (fault : Fault) : Type 0 where
  pub contents : Contents
  pub gave : GaveDump r.source_before.remaining r.source_after.remaining contents
  pub why : WhyNoReport contents r.text fault
  pub reads : r.source_after.failures ≡ r.source_before.failures
  pub unwritten : IsUnwritten r

-- the sink failed, and holds a beginning of the report's text after what it held before
pub record IsCutShort (r : Run) : Type 0 where
  pub bytes : List ℕ
  pub gave : Gave r.source_before.remaining r.source_after.remaining bytes
  pub report : ReportData
  pub is_report : IsReport bytes r.text report
  pub reads : r.source_after.failures ≡ r.source_before.failures
  pub failed : r.sink_after.failures ≡ after_failure r.sink_before.failures
  pub front : AppendsFront r.sink_before.contents r.sink_after.contents (report_text report)

-- why there is no report, or not all of it
abbrev pub WhyRunRefused : Run → Fault → Type 0
WhyRunRefused r (Vcd dumps.Memory) = ⊥
WhyRunRefused r (Vcd e) = IsUnread r e
WhyRunRefused r (Report reports.Write) = IsCutShort r
WhyRunRefused r (Report reports.Memory) = ⊥
WhyRunRefused r (Lex e) = IsRefusedReport r (Lex e)
WhyRunRefused r (Parse parsing.Memory) = ⊥
WhyRunRefused r (Parse e) = IsRefusedReport r (Parse e)
WhyRunRefused r (Typing e) = IsRefusedReport r (Typing e)
WhyRunRefused r (Window e) = IsRefusedReport r (Window e)
WhyRunRefused r Memory = IsOutOfMemory r
WhyRunRefused r _ = ⊥

-- the source gave a dump over which an assertion of the text has no program, and nothing was
-- written
pub record IsUncompiled (r : Run) (fault : CompileFault) : Type 0 where
  pub contents : Contents
  pub gave : GaveDump r.source_before.remaining r.source_after.remaining contents
  pub why : IsNotCompiled contents r.text fault
  pub reads : r.source_after.failures ≡ r.source_before.failures
  pub unwritten : IsUnwritten r

-- the source gave a dump over which the text has too many assertions, and nothing was written
pub record IsWithoutJob (r : Run) : Type 0 where
  pub contents : Contents
  pub gave : GaveDump r.source_before.remaining r.source_after.remaining contents
  pub why : HasNoJob contents r.text
  pub reads : r.source_after.failures ≡ r.source_before.failures
  pub unwritten : IsUnwritten r

-- why there is no report by programs, or not all of it
abbrev pub WhyCheckRefused : Run → Fault → Type 0
WhyCheckRefused r (Compile compiles.Memory) = ⊥
WhyCheckRefused r (Compile e) = IsUncompiled r e
WhyCheckRefused r BadJob = IsWithoutJob r
WhyCheckRefused r fault = WhyRunRefused r fault

-- why nothing was checked, or not all of the report written
abbrev pub WhyNotChecked : ℕ → Run → Fault → Type 0
WhyNotChecked window r BadSize = IsOutOfRange window r
WhyNotChecked window r fault = WhyCheckRefused r fault

-- why nothing was checked by so many workers, or not all of the report written: first the window's
-- size, then the number of workers
abbrev pub WhyNotCheckedBy : ℕ → ℕ → Run → Fault → Type 0
WhyNotCheckedBy workers window r BadSize = IsOutOfRange window r
WhyNotCheckedBy workers window r BadWorkers =
    (1 ≤ window) × (window ≤ 65536) × IsBadTeam workers × IsUntouched r
WhyNotCheckedBy workers window r fault = WhyCheckRefused r fault
