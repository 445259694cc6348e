use Rattle.std.proofs.Common.{ap, ◌∙◌}
use Rattle.parser_grammar.specs.Views.{sequence_of}
use Rattle.types_names.specs.Faults.{earlier}
use Rattle.types_names.specs.Views.{scope_of}
use Rattle.types_names.proofs.Lists.{steps-at, others-at, when_ok}
use Rattle.types_names.proofs.TreeSteps.{is-Delayed, is-Throughout, is-Joined}
use Rattle.types_signals.proofs.SequenceLaws.{least-joined, least-step, faults-delayed, faults-throughout}
use Rattle.types_signals.proofs.SequenceLaws.{faults-joined, faults-step, faults-other}
use Rattle.types_signals.proofs.sequence.+sequences.Goals as goal

pub sequence_fault-returns-in_ok-first-in-Delayed : goal.sequence_fault-returns-in_ok-first-in-Delayed
sequence_fault-returns-in_ok-first-in-Delayed t c =
    let k = c.in-Delayed in
    let is =
    is-Delayed c.args.sequence.now k.first k.steps c.deref-in-Delayed.result.now c.deref-in-Delayed-2.result.now
    k.is c.deref-in-Delayed.ensures c.deref-in-Delayed-2.ensures.value in
    when_ok c.steps_fault.result
    (λ r h. least-joined _ _ _ c.in_ok-first-in-Delayed.first r
    (faults-delayed (scope_of c.args.scope.now) c.args.sought _ _ _ is) c.in_ok-first-in-Delayed.ensures h)
    c.steps_fault.ensures

pub sequence_fault-returns-in_ok-first-in-Joined : goal.sequence_fault-returns-in_ok-first-in-Joined
sequence_fault-returns-in_ok-first-in-Joined t c =
    let k = c.in-Joined in
    let is =
    is-Joined c.args.sequence.now k.field-0 k.first k.others c.deref-in-Joined.result.now
    c.deref-in-Joined-2.result.now k.is c.deref-in-Joined.ensures c.deref-in-Joined-2.ensures.value in
    when_ok c.others_fault.result
    (λ r h. least-joined _ _ _ c.in_ok-first-in-Joined.first r
    (faults-joined (scope_of c.args.scope.now) c.args.sought _ _ _ _ is) c.in_ok-first-in-Joined.ensures h)
    c.others_fault.ensures

pub sequence_fault-returns-in_ok-body-in-Throughout : goal.sequence_fault-returns-in_ok-body-in-Throughout
sequence_fault-returns-in_ok-body-in-Throughout t c =
    let k = c.in-Throughout in
    let is =
    is-Throughout c.args.sequence.now k.expr k.body c.deref-in-Throughout.result.now
    c.deref-in-Throughout-2.result.now k.is c.deref-in-Throughout.ensures c.deref-in-Throughout-2.ensures in
    least-joined _ _ _ c.in_ok-seen-in-Throughout.seen.fault _
    (faults-throughout (scope_of c.args.scope.now) c.args.sought _ _ _ is)
    c.in_ok-seen-in-Throughout.ensures.fault
    (c.earlier.ensures ∙ ap (earlier c.in_ok-seen-in-Throughout.seen.fault) c.in_ok-body-in-Throughout.ensures)

pub steps_fault-loop-step-preserved : goal.steps_fault-loop-step-preserved
steps_fault-loop-step-preserved t c =
    let x = c.step-item.result in
    let at = steps-at c.args.steps.now c.loop-step.step-index x c.loop-step-test.true c.step-item.is in
    least-step _ _ _ c.loop-step.fault c.in_ok-next.next _ _
    (faults-step (scope_of c.args.scope.now) c.args.sought _ x.0 (sequence_of x.1) _ at) c.in_ok-next.ensures
    c.earlier-fault.ensures c.loop-step.invariant

pub others_fault-loop-other-preserved : goal.others_fault-loop-other-preserved
others_fault-loop-other-preserved t c =
    let x = c.other-item.result in
    let at = others-at c.args.others.now c.loop-other.other-index x c.loop-other-test.true c.other-item.is in
    least-step _ _ _ c.loop-other.fault c.in_ok-next.next _ _
    (faults-other (scope_of c.args.scope.now) c.args.sought _ (sequence_of x) _ at) c.in_ok-next.ensures
    c.earlier-fault.ensures c.loop-other.invariant
