-- What asks for a dump's variables alone.
use Rattle.std.proofs.Common.{◌≡◌, ℕ, List, map, Some, subst}
use Rattle.std.specs.Prelude.{string_bytes}
use Rattle.parser.specs.declared.fault.ParseFault.{ParseFault}
use Rattle.parser.specs.declared.fault.ParseFault.TheVariants as parsing
use Rattle.types.specs.declared.fault.TypeFault.{TypeFault}
use Rattle.types.specs.Faults.{IsFirst, IsFaultless}
use Rattle.types.specs.Suites.{IsSuite}
use Rattle.compiler.specs.declared.fault.CompileFault.{CompileFault}
use Rattle.compiler.specs.declared.fault.CompileFault.TheVariants as compiles
use Rattle.assertions.specs.declared.suite.Suite.{Suite}
use Rattle.vcd_reader.specs.Variables.{Declared, variable_named, size_of}
use Rattle.vcd_reader.specs.Dump.{Contents}
use Rattle.cycle_window.specs.declared.fault.WindowFault.{WindowFault}
use Rattle.cycle_window.specs.declared.fault.WindowFault.TheVariants as windows
use Rattle.cycle_window.specs.Bound.{HasClock, IsClockFault}
use Rattle.report_suites.specs.Reported.{IsBound}
use Rattle.cli_faults.specs.declared.fault.Fault.{Fault}
use Rattle.cli_faults.specs.declared.fault.Fault.TheVariants.{Vcd, Lex, Parse, Typing, Compile}
use Rattle.cli_faults.specs.declared.fault.Fault.TheVariants.{BadSize, BadWorkers, BadJob, Window}
use Rattle.cli_faults.specs.declared.fault.Fault.TheVariants.{Port, Report, Code, Refused}
use Rattle.cli_faults.specs.declared.fault.Fault.TheVariants.{NoAssertion, NotText, Words, File}
use Rattle.cli_faults.specs.declared.fault.Fault.TheVariants.{Memory}
use Rattle.suite_over_dump.specs.Suites.{scope_over}
use Rattle.cli.specs.Reported.{SaysSuite}
use Rattle.cli.specs.Outcomes.{IsMistyped, HasNoClock, IsNotCompiled, WhyNoneByPrograms}

module _ (c d : Contents) (text : List ℕ) (same : c.variables ≡ d.variables) where
  pub says-by : (suite : Suite) → SaysSuite c text suite → SaysSuite d text suite
  says-by suite s = record {
    items = s.items;
    spelled = s.spelled;
    typed = record {
      faultless = subst (λ (vs : List Declared). IsFaultless (scope_over vs s.items) s.items) same
          s.typed.faultless;
      says = subst (λ (vs : List Declared). IsSuite (scope_over vs s.items) s.items suite) same
          s.typed.says;
    };
  }

  parse-by : (e : ParseFault) → WhyNoneByPrograms c text (Parse e)
      → WhyNoneByPrograms d text (Parse e)
  parse-by (parsing.Expected what at) h = h
  parse-by (parsing.OutsideProfile word at) h = h
  parse-by (parsing.TooDeep at) h = h
  parse-by (parsing.BadBound at) h = h
  parse-by parsing.Memory h = h

  mistyped-by : (e : TypeFault) → IsMistyped c text e → IsMistyped d text e
  mistyped-by e h = record {
    items = h.items;
    spelled = h.spelled;
    first = subst (λ (vs : List Declared). IsFirst (scope_over vs h.items) h.items e) same h.first;
  }

  uncompiled-by : (e : CompileFault) → IsNotCompiled c text e → IsNotCompiled d text e
  uncompiled-by e h = record {
    suite = h.suite;
    says = says-by h.suite h.says;
    clock = subst (λ (vs : List Declared). HasClock vs (string_bytes h.suite.clock)) same h.clock;
    why = h.why;
  }

  compile-by : (e : CompileFault) → WhyNoneByPrograms c text (Compile e)
      → WhyNoneByPrograms d text (Compile e)
  compile-by compiles.TooManyAtoms h = uncompiled-by compiles.TooManyAtoms h
  compile-by compiles.CodeTooLong h = uncompiled-by compiles.CodeTooLong h
  compile-by compiles.TooManySlots h = uncompiled-by compiles.TooManySlots h
  compile-by compiles.TextTooLong h = uncompiled-by compiles.TextTooLong h
  compile-by compiles.Memory h = h

  clockless-by : (e : WindowFault) → HasNoClock c text e → HasNoClock d text e
  clockless-by e h = record {
    suite = h.suite;
    says = says-by h.suite h.says;
    why = subst (λ (vs : List Declared). IsClockFault vs (string_bytes h.suite.clock) e) same h.why;
  }

  window-by : (e : WindowFault) → WhyNoneByPrograms c text (Window e)
      → WhyNoneByPrograms d text (Window e)
  window-by windows.NoClock h = clockless-by windows.NoClock h
  window-by windows.ClockWidth h = clockless-by windows.ClockWidth h
  window-by windows.BadSize h = h
  window-by (windows.NoSignal path) h = h
  window-by (windows.SignalWidth path) h = h
  window-by windows.Memory h = h

  pub faults-by : (fault : Fault) → WhyNoneByPrograms c text fault
      → WhyNoneByPrograms d text fault
  faults-by (Vcd e) h = absurd h
  faults-by (Lex e) h = h
  faults-by (Parse e) h = parse-by e h
  faults-by (Typing e) h = mistyped-by e h
  faults-by (Compile e) h = compile-by e h
  faults-by BadSize h = absurd h
  faults-by BadWorkers h = absurd h
  faults-by BadJob h = record {
    suite = h.suite;
    says = says-by h.suite h.says;
    clock = subst (λ (vs : List Declared). HasClock vs (string_bytes h.suite.clock)) same h.clock;
    why = h.why;
  }
  faults-by (Window e) h = window-by e h
  faults-by (Port e) h = absurd h
  faults-by (Report e) h = absurd h
  faults-by (Code e) h = absurd h
  faults-by (Refused e) h = absurd h
  faults-by (NoAssertion e) h = absurd h
  faults-by (NotText e) h = absurd h
  faults-by (Words e) h = absurd h
  faults-by (File e) h = absurd h
  faults-by Memory h = h

  pub bound-by : (suite : Suite) (clock : ℕ) (signals : List ℕ) → IsBound c suite clock signals
      → IsBound d suite clock signals
  bound-by suite clock signals b = record {
    clock_named = subst (λ (vs : List Declared).
        variable_named vs (string_bytes suite.clock) ≡ Some clock) same b.clock_named;
    clock_bit = subst (λ (vs : List Declared). size_of vs clock ≡ 1) same b.clock_bit;
    signals_named = subst (λ (vs : List Declared).
        map (λ s. variable_named vs (string_bytes s.path)) suite.names.items
        ≡ map (λ v. Some v) signals) same b.signals_named;
  }
