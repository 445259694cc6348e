-- A text that has a report is refused by nothing but want of memory.
use Rattle.std.proofs.Common.{◌≡◌, ℕ, List, Option, Some, None, refl, ap, ◌∙◌, map, string_bytes}
use Rattle.std.specs.Prelude.{if◌then◌else◌, ◌==◌}
use Rattle.lexer.specs.declared.token.Token.{Token}
use Rattle.lexer.specs.declared.fault.LexFault.{LexFault}
use Rattle.lexer.specs.Cutting.{cut_of}
use Rattle.lexer.specs.Covering.{IsFaulty}
use Rattle.lexer.proofs.CoveringLaws.{tokens_of-covered}
use Rattle.lexer.proofs.OneCut.{cut_faultless}
use Rattle.parser.specs.declared.fault.ParseFault.{ParseFault}
use Rattle.assertions.specs.declared.suite.Suite.{Suite}
use Rattle.types.specs.declared.fault.TypeFault.{TypeFault}
use Rattle.laws_one_report.proofs.MovedTrees.{moved_item}
use Rattle.vcd_reader.specs.Variables.{variable_named}
use Rattle.vcd_reader.specs.Dump.{Contents}
use Rattle.cycle_window.specs.declared.fault.WindowFault.{WindowFault}
use Rattle.cycle_window.specs.declared.fault.WindowFault.TheVariants as windows
use Rattle.cycle_window.specs.Bound.{Misfit, Missing, OtherWidth, misfit, HasClock}
use Rattle.report_lines.specs.Lines.{ReportData}
use Rattle.cli_faults.specs.declared.fault.Fault.{Fault}
use Rattle.cli_faults.specs.declared.fault.Fault.TheVariants.{
  Vcd,
  Lex,
  Parse,
  Typing,
  Compile,
  BadSize,
  BadWorkers,
  BadJob,
  Window,
  Port,
  Report,
  Code,
  Refused,
  NoAssertion,
  NotText,
  Words,
  File,
  Memory,
}
use Rattle.cli.proofs.TextLaws.{itemless}
use Rattle.cli.specs.Reported.{AreTokens, SaysSuite, HasReport}
use Rattle.report_suites.specs.Reported.{IsBound}
use Rattle.cli.specs.Outcomes.{HasNoItems, IsMistyped, WhyNoReport}
use Rattle.laws_one_report.proofs.TokenLaws.{lies_in}
use Rattle.laws_one_report.proofs.ItemLaws.{file_of, other_stands}
use Rattle.laws_one_report.proofs.OneReport.{same_suites}

-- A text that has tokens has no fault of its bytes.
tokens_faultless : (text : List ℕ) (tokens : List Token) (fault : LexFault) → AreTokens text tokens
    → IsFaulty 0 text fault → ⊥
tokens_faultless text tokens fault h =
    cut_faultless (tokens_of-covered text (map cut_of tokens) h) fault

-- It has items.
not_itemless : (c : Contents) (text : List ℕ) (suite : Suite) (fault : ParseFault)
    → SaysSuite c text suite → HasNoItems text fault → ⊥
not_itemless c text suite fault h k =
    k.none (map (moved_item (lies_in k.tokens)) h.items)
    (file_of text h.items k.tokens h.spelled k.cut)

-- No fault of types stands in them.
not_mistyped : (c : Contents) (text : List ℕ) (suite : Suite) (fault : TypeFault)
    → SaysSuite c text suite → IsMistyped c text fault → ⊥
not_mistyped c text suite fault h k =
    h.typed.faultless fault
    (other_stands c.variables text k.items h.items fault k.spelled h.spelled k.first.stands)

-- The suite's clock is one.
clock_fits : (c : Contents) (suite : Suite) (clock : ℕ) (signals : List ℕ)
    → IsBound c suite clock signals
    → HasClock c.variables (string_bytes suite.clock)
clock_fits c suite clock signals h =
    ap (λ (o : Option ℕ). misfit c.variables o 1) h.clock_named
    ∙ ap (λ (size : ℕ). if size == 1 then None else Some OtherWidth) h.clock_bit

clock_misfits : (c : Contents) (text : List ℕ) (report : ReportData) (suite : Suite) (m : Misfit)
    → HasReport c text report → SaysSuite c text suite
    → misfit c.variables (variable_named c.variables (string_bytes suite.clock)) 1 ≡ Some m → ⊥
clock_misfits c text report suite m h k e =
    let same = same_suites c text suite h.suite k h.says in
    let fits : HasClock c.variables (string_bytes suite.clock) =
    ap (λ (p : List ℕ). misfit c.variables (variable_named c.variables p) 1) same.clock
    ∙ clock_fits c h.suite h.reports.clock h.reports.signals h.reports.bound in
    absurd cc

not_clockless : (c : Contents) (text : List ℕ) (report : ReportData) (fault : WindowFault)
    → HasReport c text report → WhyNoReport c text (Window fault) → ⊥
not_clockless c text report windows.NoClock h k =
    clock_misfits c text report k.suite Missing h k.says k.why
not_clockless c text report windows.ClockWidth h k =
    clock_misfits c text report k.suite OtherWidth h k.says k.why
not_clockless c text report windows.BadSize h k = k
not_clockless c text report (windows.NoSignal path) h k = k
not_clockless c text report (windows.SignalWidth path) h k = k
not_clockless c text report windows.Memory h k = k

pub unrefused : (c : Contents) (text : List ℕ) (report : ReportData) (fault : Fault)
    → HasReport c text report → WhyNoReport c text fault → fault ≡ Memory
unrefused c text report (Vcd e) h k = absurd k
unrefused c text report (Lex e) h k =
    absurd (tokens_faultless text h.says.spelled.tokens e h.says.spelled.cut k)
unrefused c text report (Parse e) h k =
    absurd (not_itemless c text h.suite e h.says (itemless c text e k))
unrefused c text report (Typing e) h k = absurd (not_mistyped c text h.suite e h.says k)
unrefused c text report (Compile e) h k = absurd k
unrefused c text report BadSize h k = absurd k
unrefused c text report BadWorkers h k = absurd k
unrefused c text report BadJob h k = absurd k
unrefused c text report (Window e) h k = absurd (not_clockless c text report e h k)
unrefused c text report (Port e) h k = absurd k
unrefused c text report (Report e) h k = absurd k
unrefused c text report (Code e) h k = absurd k
unrefused c text report (Refused e) h k = absurd k
unrefused c text report (NoAssertion e) h k = absurd k
unrefused c text report (NotText e) h k = absurd k
unrefused c text report (Words e) h k = absurd k
unrefused c text report (File e) h k = absurd k
unrefused c text report Memory h k = refl
