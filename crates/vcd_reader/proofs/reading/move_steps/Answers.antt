use Rattle.std.proofs.Common.{[], ◌≡◌, ◌<◌, ◌++◌, ◌∙◌, List, length, get_or, map, refl, ap, arith}
use Rattle.std.specs.Vec.{with_items}
use Rattle.std.proofs.lemmas.List.{with_items_is}
use Rattle.std.proofs.lemmas.List.{get_or_default}
use Rattle.vcd_reader.specs.declared.step.Step.{Step}
use Rattle.vcd_reader.specs.declared.step.Change.{Change}
use Rattle.vcd_reader.specs.Stored.{stored_change, stored_step}
use Rattle.vcd_reader.proofs.MoveLaws.{step-moved, more-moved, others-stay, all-moved}
use Rattle.vcd_reader.proofs.reading.move_steps.Goals as goal

pub loop-place-init : goal.loop-place-init
loop-place-init c = record {
  moved = λ front high long i d lt. absurd (omega (arith, lt));
  rest = λ i d le. refl;
}

pub loop-place-preserved : goal.loop-place-preserved
loop-place-preserved c =
    let now = c.loop-place.steps in
    let n = c.loop-place.place in
    let inside : n < length now = omega (arith, c.loop-place-test.true, c.loop-place.auto.steps) in
    let s : Step = get_or now n c.index-steps-place.result in
    let new : Step =
    record { time = s.time; changes = with_items s.changes c.move_changes.new.changes } in
    let changes = c.deref_mut.ensures.value in
    let long = c.move_changes.ensures.long ∙ ap (λ (cs : List Change). length cs) changes in
    let refilled : new.changes.items ≡ c.move_changes.new.changes =
    with_items_is s.changes c.move_changes.new.changes (omega (arith, long, s.changes.ok.0)) in
    record {
      moved = λ front high is.
          more-moved (stored_step (front ++ high)) (stored_step high) c.args.steps.now now n new inside
          (c.loop-place.invariant.moved front high is)
          (λ d.
          step-moved front high s new refl
          (ap (map (stored_change (front ++ high))) refilled
          ∙ c.if-not-move_changes.ensures.moved refl front high is ∙ ap (map (stored_change high)) changes)
          ∙ ap (stored_step high)
          (get_or_default now n _ d inside ∙ c.loop-place.invariant.rest n d (omega arith)));
      rest = others-stay (stored_step []) (stored_step []) c.args.steps.now now n new c.loop-place.invariant.rest;
    }

pub returns : goal.returns
returns c = λ told front high long.
    all-moved (stored_step (front ++ high)) (stored_step high) c.args.steps.now c.loop-place.steps
    c.loop-place.auto.steps
    (λ i d lt. c.loop-place.invariant.moved front high long i d (omega (arith, lt, c.loop-place-test.false)))
