use Rattle.std.proofs.Common.{rules, refl}
use Rattle.parser_grammar.specs.declared.sequence.SequenceTree.TheViews.{the_lemmas}
use Rattle.parser_grammar.specs.Views.{sequence_of}
use Rattle.assertions.specs.declared.sequence.Boolean.TheVariants.{Listed}
use Rattle.types.specs.Views.{draft_of}
use Rattle.types_names.specs.Views.{scope_of, columns_in}
use Rattle.types_names.proofs.Lists.{steps-at, steps-end, others-at, others-end, when_ok}
use Rattle.types_names.proofs.TreeSteps.{is-Boolean, is-Repeated, is-Late, is-Delayed, is-Throughout, is-Joined}
use Rattle.types.proofs.ReadingLaws.{when_both, extends_same, extends_on, atom_grows, ready-boolean}
use Rattle.types.proofs.ReadingLaws.{ready-repeated, ready-late, ready-delayed}
use Rattle.types.proofs.ReadingLaws.{ready-throughout, ready-joined}
use Rattle.types.proofs.ReadingLaws.{ready-step, ready-other, reads-boolean, reads-repeated, reads-late}
use Rattle.types.proofs.ReadingLaws.{reads-throughout, reads-delayed, reads-joined, steps-step, others-step}
use Rattle.types.proofs.ReadingLaws.{steps-end as steps-done, others-end as others-done}
use Rattle.types.proofs.drafts.+drafts.Goals as goal

pub draft_of-boolean-requires-clause-sound : goal.draft_of-boolean-requires-clause-sound
draft_of-boolean-requires-clause-sound t c =
    let is = is-Boolean c.args.sequence.now c.in-Boolean.expr c.deref.result.now c.in-Boolean.is c.deref.ensures in
    let r =
    ready-boolean (scope_of c.args.scope.now) (columns_in c.args.columns.now) _ _ is
    (record { sound = c.requires.sound; listed = c.requires.listed }) in
    r.sound

pub draft_of-boolean-requires-clause-listed : goal.draft_of-boolean-requires-clause-listed
draft_of-boolean-requires-clause-listed t c =
    let is = is-Boolean c.args.sequence.now c.in-Boolean.expr c.deref.result.now c.in-Boolean.is c.deref.ensures in
    let r =
    ready-boolean (scope_of c.args.scope.now) (columns_in c.args.columns.now) _ _ is
    (record { sound = c.requires.sound; listed = c.requires.listed }) in
    r.listed

pub draft_of-draft_of-requires : goal.draft_of-draft_of-requires
draft_of-draft_of-requires t c =
    let k = c.in-Repeated in
    let is =
    is-Repeated c.args.sequence.now k.body k.range c.deref-in-Repeated.result.now k.is c.deref-in-Repeated.ensures
    in
    let r =
    ready-repeated (scope_of c.args.scope.now) (columns_in c.args.columns.now) _ _ _ is
    (record { sound = c.requires.sound; listed = c.requires.listed }) in
    (search (rules, the_lemmas), (r.sound, r.listed))

pub draft_of-draft_of-requires-in-Late : goal.draft_of-draft_of-requires-in-Late
draft_of-draft_of-requires-in-Late t c =
    let k = c.in-Late in
    let is =
    is-Late c.args.sequence.now k.field-0 k.range k.body c.deref-in-Late.result.now k.is c.deref-in-Late.ensures
    in
    let r =
    ready-late (scope_of c.args.scope.now) (columns_in c.args.columns.now) _ _ _ _ is
    (record { sound = c.requires.sound; listed = c.requires.listed }) in
    (search (rules, the_lemmas), (r.sound, r.listed))

pub draft_of-draft_of-requires-in-Delayed : goal.draft_of-draft_of-requires-in-Delayed
draft_of-draft_of-requires-in-Delayed t c =
    let k = c.in-Delayed in
    let is =
    is-Delayed c.args.sequence.now k.first k.steps c.deref-in-Delayed.result.now _ k.is c.deref-in-Delayed.ensures
    refl in
    let r =
    ready-delayed (scope_of c.args.scope.now) (columns_in c.args.columns.now) _ _ _ is
    (record { sound = c.requires.sound; listed = c.requires.listed }) in
    (search (rules, the_lemmas), (r.0.sound, r.0.listed))

pub draft_of-with_steps-requires : goal.draft_of-with_steps-requires
draft_of-with_steps-requires t c =
    let k = c.in-Delayed in
    let is =
    is-Delayed c.args.sequence.now k.first k.steps c.deref-in-Delayed.result.now c.deref-in-Delayed-2.result.now
    k.is c.deref-in-Delayed.ensures c.deref-in-Delayed-2.ensures.value in
    let r =
    ready-delayed (scope_of c.args.scope.now) (columns_in c.args.columns.now) _ _ _ is
    (record { sound = c.requires.sound; listed = c.requires.listed }) in
    (search (rules, the_lemmas), (r.1.sound, r.1.listed))

pub draft_of-atom-requires-clause-sound : goal.draft_of-atom-requires-clause-sound
draft_of-atom-requires-clause-sound t c =
    let k = c.in-Throughout in
    let is =
    is-Throughout c.args.sequence.now k.expr k.body c.deref-in-Throughout.result.now _ k.is
    c.deref-in-Throughout.ensures refl in
    let r =
    ready-throughout (scope_of c.args.scope.now) (columns_in c.args.columns.now) _ _ _ is
    (record { sound = c.requires.sound; listed = c.requires.listed }) in
    r.0.sound

pub draft_of-atom-requires-clause-listed : goal.draft_of-atom-requires-clause-listed
draft_of-atom-requires-clause-listed t c =
    let k = c.in-Throughout in
    let is =
    is-Throughout c.args.sequence.now k.expr k.body c.deref-in-Throughout.result.now _ k.is
    c.deref-in-Throughout.ensures refl in
    let r =
    ready-throughout (scope_of c.args.scope.now) (columns_in c.args.columns.now) _ _ _ is
    (record { sound = c.requires.sound; listed = c.requires.listed }) in
    r.0.listed

pub draft_of-draft_of-requires-in-Throughout : goal.draft_of-draft_of-requires-in-Throughout
draft_of-draft_of-requires-in-Throughout t c =
    let k = c.in-Throughout in
    let is =
    is-Throughout c.args.sequence.now k.expr k.body c.deref-in-Throughout.result.now
    c.deref-in-Throughout-2.result.now k.is c.deref-in-Throughout.ensures c.deref-in-Throughout-2.ensures in
    let r =
    ready-throughout (scope_of c.args.scope.now) (columns_in c.args.columns.now) _ _ _ is
    (record { sound = c.requires.sound; listed = c.requires.listed }) in
    (search (rules, the_lemmas), (r.1.sound, r.1.listed))

pub draft_of-draft_of-requires-in-Joined : goal.draft_of-draft_of-requires-in-Joined
draft_of-draft_of-requires-in-Joined t c =
    let k = c.in-Joined in
    let is =
    is-Joined c.args.sequence.now k.junction k.first k.others c.deref-in-Joined.result.now _ k.is
    c.deref-in-Joined.ensures refl in
    let r =
    ready-joined (scope_of c.args.scope.now) (columns_in c.args.columns.now) _ _ _ _ is
    (record { sound = c.requires.sound; listed = c.requires.listed }) in
    (search (rules, the_lemmas), (r.0.sound, r.0.listed))

pub draft_of-with_others-requires : goal.draft_of-with_others-requires
draft_of-with_others-requires t c =
    let k = c.in-Joined in
    let is =
    is-Joined c.args.sequence.now k.junction k.first k.others c.deref-in-Joined.result.now
    c.deref-in-Joined-2.result.now k.is c.deref-in-Joined.ensures c.deref-in-Joined-2.ensures.value in
    let r =
    ready-joined (scope_of c.args.scope.now) (columns_in c.args.columns.now) _ _ _ _ is
    (record { sound = c.requires.sound; listed = c.requires.listed }) in
    (search (rules, the_lemmas), (r.1.sound, r.1.listed))

pub draft_of-returns-in-Boolean-clause-reads : goal.draft_of-returns-in-Boolean-clause-reads
draft_of-returns-in-Boolean-clause-reads t c =
    let is = is-Boolean c.args.sequence.now c.in-Boolean.expr c.deref.result.now c.in-Boolean.is c.deref.ensures in
    when_ok c.boolean.result
    (λ d h. reads-boolean (scope_of c.args.scope.now) (columns_in c.args.columns.now) c.boolean.new.booleans.items
    _ _ (draft_of d.value) is h) c.boolean.ensures.reads

pub draft_of-returns-in_ok-body-in-Repeated-clause-reads :
    goal.draft_of-returns-in_ok-body-in-Repeated-clause-reads
draft_of-returns-in_ok-body-in-Repeated-clause-reads t c =
    let k = c.in-Repeated in
    let is =
    is-Repeated c.args.sequence.now k.body k.range c.deref-in-Repeated.result.now k.is c.deref-in-Repeated.ensures
    in
    when_ok c.repeated_draft.result
    (λ d h. reads-repeated (scope_of c.args.scope.now) (columns_in c.args.columns.now) _ _ _ k.range
    (draft_of c.in_ok-body-in-Repeated.body.value) (draft_of d.value) is c.in_ok-body-in-Repeated.ensures.reads h)
    c.repeated_draft.ensures

pub draft_of-returns-in_ok-body-in-Late-clause-reads :
    goal.draft_of-returns-in_ok-body-in-Late-clause-reads
draft_of-returns-in_ok-body-in-Late-clause-reads t c =
    let k = c.in-Late in
    let is =
    is-Late c.args.sequence.now k.field-0 k.range k.body c.deref-in-Late.result.now k.is c.deref-in-Late.ensures
    in
    when_ok c.late_draft.result
    (λ d h. reads-late (scope_of c.args.scope.now) (columns_in c.args.columns.now) _ _ k.field-0 k.range _
    (draft_of c.in_ok-body-in-Late.body.value) (draft_of d.value) is c.in_ok-body-in-Late.ensures.reads h)
    c.late_draft.ensures

pub draft_of-returns-in_ok-first-in-Delayed-clause-reads :
    goal.draft_of-returns-in_ok-first-in-Delayed-clause-reads
draft_of-returns-in_ok-first-in-Delayed-clause-reads t c =
    let k = c.in-Delayed in
    let is =
    is-Delayed c.args.sequence.now k.first k.steps c.deref-in-Delayed.result.now c.deref-in-Delayed-2.result.now
    k.is c.deref-in-Delayed.ensures c.deref-in-Delayed-2.ensures.value in
    when_both c.with_steps.result
    (λ d g h. reads-delayed (scope_of c.args.scope.now) (columns_in c.args.columns.now) _ _ g _ _ _
    (draft_of c.in_ok-first-in-Delayed.first.value) (draft_of d.value) is c.in_ok-first-in-Delayed.ensures.reads
    h)
    c.with_steps.ensures.grows c.with_steps.ensures.reads

pub draft_of-returns-in_ok-body-in-Throughout-clause-reads :
    goal.draft_of-returns-in_ok-body-in-Throughout-clause-reads
draft_of-returns-in_ok-body-in-Throughout-clause-reads t c =
    let k = c.in-Throughout in
    let is =
    is-Throughout c.args.sequence.now k.expr k.body c.deref-in-Throughout.result.now
    c.deref-in-Throughout-2.result.now k.is c.deref-in-Throughout.ensures c.deref-in-Throughout-2.ensures in
    let s = scope_of c.args.scope.now in
    let cs = columns_in c.args.columns.now in
    let place = Listed c.in_ok-place-in-Throughout.place in
    when_ok c.throughout_draft.result
    (λ d h. reads-throughout s cs _ _ _ _ place (draft_of c.in_ok-body-in-Throughout.body.value) (draft_of d.value) is
    (atom_grows s cs _ _ c.in_ok-body-in-Throughout.ensures.grows _ place
    c.in_ok-place-in-Throughout.ensures.atom)
    c.in_ok-body-in-Throughout.ensures.reads h)
    c.throughout_draft.ensures

pub draft_of-returns-in_ok-first-in-Joined-clause-reads :
    goal.draft_of-returns-in_ok-first-in-Joined-clause-reads
draft_of-returns-in_ok-first-in-Joined-clause-reads t c =
    let k = c.in-Joined in
    let is =
    is-Joined c.args.sequence.now k.junction k.first k.others c.deref-in-Joined.result.now
    c.deref-in-Joined-2.result.now k.is c.deref-in-Joined.ensures c.deref-in-Joined-2.ensures.value in
    when_both c.with_others.result
    (λ d g h. reads-joined (scope_of c.args.scope.now) (columns_in c.args.columns.now) _ _ g _ _ _ _
    (draft_of c.in_ok-first-in-Joined.first.value) (draft_of d.value) is c.in_ok-first-in-Joined.ensures.reads h)
    c.with_others.ensures.grows c.with_others.ensures.reads

pub with_steps-draft_of-requires : goal.with_steps-draft_of-requires
with_steps-draft_of-requires t c =
    let x = c.step-item.result in
    let at = steps-at c.args.steps.now c.loop-step.step-index x c.loop-step-test.true c.step-item.is in
    let r =
    ready-step (scope_of c.args.scope.now) (columns_in c.args.columns.now) _ x.0 (sequence_of x.1) _ at
    c.loop-step.invariant.ready in
    (search (rules, the_lemmas), (r.0.sound, r.0.listed))

pub with_others-draft_of-requires : goal.with_others-draft_of-requires
with_others-draft_of-requires t c =
    let x = c.other-item.result in
    let at = others-at c.args.others.now c.loop-other.other-index x c.loop-other-test.true c.other-item.is in
    let r =
    ready-other (scope_of c.args.scope.now) (columns_in c.args.columns.now) _ (sequence_of x) _ at
    c.loop-other.invariant.ready in
    (search (rules, the_lemmas), (r.0.sound, r.0.listed))

pub with_steps-loop-step-preserved : goal.with_steps-loop-step-preserved
with_steps-loop-step-preserved t c =
    let s = scope_of c.args.scope.now in
    let cs = columns_in c.args.columns.now in
    let x = c.step-item.result in
    let at = steps-at c.args.steps.now c.loop-step.step-index x c.loop-step-test.true c.step-item.is in
    let r = ready-step s cs _ x.0 (sequence_of x.1) _ at c.loop-step.invariant.ready in
    let grown = c.in_ok-next.ensures.grows in
    record {
      ready = r.1;
      grows = extends_on _ _ _ c.loop-step.invariant.grows grown;
      reads = λ later more d h. c.loop-step.invariant.reads later (extends_on _ _ _ grown more) d
          (steps-step s cs _ later more _ x.0 (sequence_of x.1) _ (draft_of c.loop-step.whole.value)
          (draft_of c.in_ok-next.next.value) (draft_of c.in_ok-whole.whole.value) d at c.in_ok-next.ensures.reads
          c.in_ok-whole.ensures h);
    }

pub with_steps-returns-clause-reads : goal.with_steps-returns-clause-reads
with_steps-returns-clause-reads t c =
    c.loop-step.invariant.reads _ (extends_same _) (draft_of c.loop-step.whole.value)
    (steps-done (scope_of c.args.scope.now) (columns_in c.args.columns.now) _ _ (draft_of c.loop-step.whole.value)
    (steps-end c.args.steps.now c.loop-step.step-index c.loop-step-test.false))

pub with_others-loop-other-preserved : goal.with_others-loop-other-preserved
with_others-loop-other-preserved t c =
    let s = scope_of c.args.scope.now in
    let cs = columns_in c.args.columns.now in
    let x = c.other-item.result in
    let at = others-at c.args.others.now c.loop-other.other-index x c.loop-other-test.true c.other-item.is in
    let r = ready-other s cs _ (sequence_of x) _ at c.loop-other.invariant.ready in
    let grown = c.in_ok-next.ensures.grows in
    record {
      ready = r.1;
      grows = extends_on _ _ _ c.loop-other.invariant.grows grown;
      reads = λ later more d h. c.loop-other.invariant.reads later (extends_on _ _ _ grown more) d
          (others-step s cs _ later more c.args.junction _ (sequence_of x) _ (draft_of c.loop-other.whole.value)
          (draft_of c.in_ok-next.next.value) (draft_of c.in_ok-whole.whole.value) d at c.in_ok-next.ensures.reads
          c.in_ok-whole.ensures h);
    }

pub with_others-returns-clause-reads : goal.with_others-returns-clause-reads
with_others-returns-clause-reads t c =
    c.loop-other.invariant.reads _ (extends_same _) (draft_of c.loop-other.whole.value)
    (others-done (scope_of c.args.scope.now) (columns_in c.args.columns.now) _ c.args.junction _
    (draft_of c.loop-other.whole.value)
    (others-end c.args.others.now c.loop-other.other-index c.loop-other-test.false))
