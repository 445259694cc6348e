use Rattle.parser_grammar.specs.Views.{sequence_of}
use Rattle.types_names.specs.Views.{scope_of, columns_in}
use Rattle.types_names.proofs.Lists.{steps-at, others-at, when_ok}
use Rattle.types_names.proofs.TreeSteps.{is-Delayed, is-Throughout, is-Joined}
use Rattle.types_signals.proofs.ListingLaws.{listed-joined, listed-step, signals-delayed, signals-throughout}
use Rattle.types_signals.proofs.ListingLaws.{signals-joined, signals-step, signals-other}
use Rattle.types_signals.proofs.listing.+sequences.Goals as goal

pub list_sequence-returns-in_ok-list_sequence-in-Delayed : goal.list_sequence-returns-in_ok-list_sequence-in-Delayed
list_sequence-returns-in_ok-list_sequence-in-Delayed t c =
    let k = c.in-Delayed in
    let is =
    is-Delayed c.args.sequence.now k.first k.steps c.deref-in-Delayed.result.now c.deref-in-Delayed-2.result.now
    k.is c.deref-in-Delayed.ensures c.deref-in-Delayed-2.ensures.value in
    when_ok c.list_steps.result
    (λ r h. listed-joined _ _ _ (columns_in c.args.columns.now)
    (columns_in c.list_sequence-in-Delayed.new.columns) (columns_in c.list_steps.new.columns)
    (signals-delayed (scope_of c.args.scope.now) _ _ _ is) c.in_ok-list_sequence-in-Delayed.ensures h)
    c.list_steps.ensures

pub list_sequence-returns-in_ok-list_sequence-in-Joined : goal.list_sequence-returns-in_ok-list_sequence-in-Joined
list_sequence-returns-in_ok-list_sequence-in-Joined t c =
    let k = c.in-Joined in
    let is =
    is-Joined c.args.sequence.now k.field-0 k.first k.others c.deref-in-Joined.result.now
    c.deref-in-Joined-2.result.now k.is c.deref-in-Joined.ensures c.deref-in-Joined-2.ensures.value in
    when_ok c.list_others.result
    (λ r h. listed-joined _ _ _ (columns_in c.args.columns.now) (columns_in c.list_sequence-in-Joined.new.columns)
    (columns_in c.list_others.new.columns) (signals-joined (scope_of c.args.scope.now) _ _ _ _ is)
    c.in_ok-list_sequence-in-Joined.ensures h) c.list_others.ensures

pub list_sequence-returns-in_ok-list_expression-in-Throughout :
    goal.list_sequence-returns-in_ok-list_expression-in-Throughout
list_sequence-returns-in_ok-list_expression-in-Throughout t c =
    let k = c.in-Throughout in
    let is =
    is-Throughout c.args.sequence.now k.expr k.body c.deref-in-Throughout.result.now
    c.deref-in-Throughout-2.result.now k.is c.deref-in-Throughout.ensures c.deref-in-Throughout-2.ensures in
    when_ok c.list_sequence-in-Throughout.result
    (λ r h. listed-joined _ _ _ (columns_in c.args.columns.now)
    (columns_in c.list_expression-in-Throughout.new.columns)
    (columns_in c.list_sequence-in-Throughout.new.columns)
    (signals-throughout (scope_of c.args.scope.now) _ _ _ is) c.in_ok-list_expression-in-Throughout.ensures h)
    c.list_sequence-in-Throughout.ensures

pub list_steps-loop-step-preserved : goal.list_steps-loop-step-preserved
list_steps-loop-step-preserved t c =
    let x = c.step-item.result in
    let at = steps-at c.args.steps.now c.loop-step.step-index x c.loop-step-test.true c.step-item.is in
    listed-step _ _ _ (columns_in c.loop-step.columns) _ _
    (signals-step (scope_of c.args.scope.now) _ x.0 (sequence_of x.1) _ at) c.in_ok-list_sequence.ensures
    c.loop-step.invariant

pub list_others-loop-other-preserved : goal.list_others-loop-other-preserved
list_others-loop-other-preserved t c =
    let x = c.other-item.result in
    let at = others-at c.args.others.now c.loop-other.other-index x c.loop-other-test.true c.other-item.is in
    listed-step _ _ _ (columns_in c.loop-other.columns) _ _
    (signals-other (scope_of c.args.scope.now) _ (sequence_of x) _ at) c.in_ok-list_sequence.ensures
    c.loop-other.invariant
