use Rattle.std.proofs.Common.{◌+◌, take}
use Rattle.report_programs.specs.Faults.{IsMadeOf, HasAcceptedProgram, WhyNoPrograms, program_fault}
use Rattle.report_programs.proofs.ListLaws.{
  at-place,
  up-to,
  made-pushed,
  program-pushed,
  no-programs,
  err-is,
}
use Rattle.report_programs.proofs.programs.programs_of.Goals as goal

pub returns-in_err-verified-clause-refused : goal.returns-in_err-verified-clause-refused
returns-in_err-verified-clause-refused c =
    let suite = c.args.suite.now in
    let a = c.assertion-item.result in
    let i = c.loop-assertion.assertion-index in
    let fault = c.in_err-verified.field-0.0 in
    err-is c.from_residual.result (program_fault fault) (WhyNoPrograms suite)
    c.from_residual.ensures.1
    (no-programs suite i a fault
    (at-place c.deref-assertion-items.result.now suite.assertions.items i a
    c.deref-assertion-items.ensures.value c.loop-assertion-test.true c.assertion-item.is)
    c.loop-assertion.invariant.programs c.in_err-verified.ensures.refused)

pub loop-assertion-preserved : goal.loop-assertion-preserved
loop-assertion-preserved c =
    let suite = c.args.suite.now in
    let all = suite.assertions.items in
    let a = c.assertion-item.result in
    let i = c.loop-assertion.assertion-index in
    let grown =
    up-to c.deref-assertion-items.result.now all i a c.deref-assertion-items.ensures.value
    c.loop-assertion-test.true c.assertion-item.is in
    let made = c.in_ok-verified.ensures in
    record {
      made =
          made-pushed (IsMadeOf suite) (take i all) (take (i + 1) all) a
          c.loop-assertion.programs.items c.push.new.self.items c.in_ok-verified.verified grown
          c.in_ok-push.ensures.items
          (record { faultless = made.faultless; of = made.made; accepted = made.accepted })
          c.loop-assertion.invariant.made;
      programs = program-pushed (HasAcceptedProgram suite) (take i all) (take (i + 1) all) a grown
          (record {
            faultless = made.faultless;
            program = c.in_ok-verified.verified;
            of = made.made;
            accepted = made.accepted;
          }) c.loop-assertion.invariant.programs;
    }
