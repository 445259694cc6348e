use Rattle.std.proofs.Common.{◌≡◌, ◌+◌, ℕ, Some, take, slice_get, ap, sym, subst}
use Rattle.report_programs.specs.Faults.{HasAcceptedProgram}
use Rattle.report_programs.proofs.ListLaws.{at-place, up-to, program-pushed}
use Rattle.lint_refusals.proofs.programless.first_programless.Goals as goal

pub loop-assertion-preserved : goal.loop-assertion-preserved
loop-assertion-preserved c =
    let suite = c.args.suite.now in
    let all = suite.assertions.items in
    let a = c.assertion-item.result in
    let i = c.loop-assertion.assertion-index in
    let grown =
    up-to c.deref-assertion-items.result.now all i a c.deref-assertion-items.ensures.value
    c.loop-assertion-test.true c.assertion-item.is in (
      ap (λ (n : ℕ). n + 1) c.loop-assertion.invariant.0,
      program-pushed (HasAcceptedProgram suite) (take i all) (take (i + 1) all) a grown
          (rw c.in_default.is at c.in_ok-fault.ensures) c.loop-assertion.invariant.1,
    )

pub returns-in-loop-assertion : goal.returns-in-loop-assertion
returns-in-loop-assertion c =
    let all = c.args.suite.now.assertions.items in
    let a = c.assertion-item.result in
    record {
      assertion = a;
      is = subst (λ (n : ℕ). slice_get all n ≡ Some a) (sym c.loop-assertion.invariant.0)
          (at-place c.deref-assertion-items.result.now all c.loop-assertion.assertion-index a
          c.deref-assertion-items.ensures.value c.loop-assertion-test.true c.assertion-item.is);
      without = rw c.in-Some.is at c.in_ok-fault.ensures;
    }
