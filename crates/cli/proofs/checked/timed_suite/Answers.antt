use Rattle.std.proofs.Common.{List, ℕ, subst, string_bytes}
use Rattle.vcd_reader.specs.Held.{variables_of}
use Rattle.cycle_window.specs.Bound.{IsClock, IsClockFault}
use Rattle.cycle_window.specs.Held.{code_in}
use Rattle.cli_faults.specs.Faults.{window_fault}
use Rattle.cli.specs.Outcomes.{WhyNoneByPrograms}
use Rattle.cli.proofs.TextLaws.{unclocked, none_by_programs}
use Rattle.cli_faults.proofs.FaultLaws.{err_is}
use Rattle.cli.proofs.ProgramLaws.{clock_of}
use Rattle.cli.proofs.checked.timed_suite.Goals as goal

pub returns-in_err-clocks-clause-err : goal.returns-in_err-clocks-clause-err
returns-in_err-clocks-clause-err c = λ k holds.
    let d = c.args.dump.now in
    let text = c.args.text.now in
    let suite = c.in_ok-suite.suite in
    let says = c.in_ok-suite.ensures.says k holds in
    let fault = c.in_err-clocks.field-0.0 in
    let why =
    clock_of d k c.clock.result.now (string_bytes suite.clock) (λ vs p. IsClockFault vs p fault)
    holds c.clock.ensures c.in_err-clocks.ensures.fault in
    err_is c.from_residual-in_err-clocks.result (window_fault fault) (WhyNoneByPrograms k text)
    c.from_residual-in_err-clocks.ensures.1
    (none_by_programs k text (window_fault fault) (unclocked k text suite fault says why))

pub returns-clause-clock : goal.returns-clause-clock
returns-clause-clock c =
    subst (λ (p : List ℕ). IsClock (variables_of c.args.dump.now) p (code_in c.in_ok-clocks.clocks)) c.clock.ensures
    c.in_ok-clocks.ensures.clock
