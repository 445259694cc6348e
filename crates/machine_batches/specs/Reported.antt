-- The report of a program over a dump, by the definitions alone, and why there is none.
use Rattle.std.specs.Prelude.{◌≡◌, ℕ, List, [], ◌∷◌, length, map, Some, None, string_bytes}
use Rattle.bytecode_programs.specs.Values.{SlotData, ProgramData}
use Rattle.vcd_reader.specs.Variables.{Declared, variable_named, size_of, code_number}
use Rattle.vcd_reader.specs.Dump.{Contents}
use Rattle.cycle_window.specs.declared.fault.WindowFault.{WindowFault}
use Rattle.cycle_window.specs.declared.fault.WindowFault.TheVariants as faults
use Rattle.cycle_window.specs.Bound.{Wanted, Missing, OtherWidth, At, misfit, first_refused}
use Rattle.cycle_window.specs.Bound.{HasClock}
use Rattle.cycle_window.specs.Ticks.{ticks_of, row_of}
use Rattle.report_lines.specs.Lines.{LineData, ReportData, report_of}
use Rattle.machine_batches.specs.Lines.{IsLineOver}

-- Variables that the paths of signals name, each of its signal's width.
pub record AreBound (vs : List Declared) (signals : List SlotData) (variables : List ℕ) :
    Type 0 where
  pub named : map (λ s. variable_named vs s.path) signals ≡ map (λ v. Some v) variables
  pub wide : map (λ v. size_of vs v) variables ≡ map (λ s. s.width) signals

-- The variable that the path of a clock names, of one bit.
pub record IsBoundClock (vs : List Declared) (path : List ℕ) (clock : ℕ) : Type 0 where
  pub named : variable_named vs path ≡ Some clock
  pub bit : size_of vs clock ≡ 1

-- the rows of the variables at the clock's ticks
abbrev pub rows_of : Contents → ℕ → List ℕ → List (List ℕ)
rows_of c clock variables = map (row_of c variables) (ticks_of c (code_number c.variables clock))

-- The report of a program over the contents of a dump: its one line, over the rows of its signals
-- at the ticks of the clock that it names.
pub record ReportsRun (c : Contents) (p : ProgramData) (report : ReportData) : Type 0 where
  pub clock : ℕ
  pub variables : List ℕ
  pub bound_clock : IsBoundClock c.variables p.header.clock clock
  pub bound : AreBound c.variables p.signals variables
  pub line : LineData
  pub ran : IsLineOver p (rows_of c clock variables) line
  pub is : report ≡ report_of (length (rows_of c clock variables)) (line ∷ [])

-- a signal of a program, as it is bound
abbrev pub wanted_slot : SlotData → Wanted
wanted_slot s = record { path = s.path; width = s.width }

-- the signals are there
abbrev pub HasSignals : List Declared → ProgramData → Type 0
HasSignals vs p = first_refused vs (map wanted_slot p.signals) ≡ None

-- Why there is no report: first the clock, then the signals in their order. Memory may lack
-- anywhere.
abbrev pub WhyNoRun : List Declared → ProgramData → WindowFault → Type 0
WhyNoRun vs p faults.NoClock = misfit vs (variable_named vs p.header.clock) 1 ≡ Some Missing
WhyNoRun vs p faults.ClockWidth =
    misfit vs (variable_named vs p.header.clock) 1 ≡ Some OtherWidth
WhyNoRun vs p (faults.NoSignal path) =
    HasClock vs p.header.clock
    × (first_refused vs (map wanted_slot p.signals) ≡ Some (At (string_bytes path) Missing))
WhyNoRun vs p (faults.SignalWidth path) =
    HasClock vs p.header.clock
    × (first_refused vs (map wanted_slot p.signals) ≡ Some (At (string_bytes path) OtherWidth))
WhyNoRun vs p faults.BadSize = ⊥
WhyNoRun vs p faults.Memory = Unit {0}
