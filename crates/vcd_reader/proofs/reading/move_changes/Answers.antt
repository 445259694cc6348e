use Rattle.std.proofs.Common.{[], ◌<◌, ◌++◌, ◌∙◌, length, get_or, refl, ap, arith}
use Rattle.std.proofs.lemmas.List.{get_or_default}
use Rattle.vcd_reader.specs.declared.step.Change.{Change}
use Rattle.vcd_reader.specs.Stored.{stored_change}
use Rattle.vcd_reader.proofs.MoveLaws.{stored-low, stored-moved, and-this, more-moved, others-stay}
use Rattle.vcd_reader.proofs.MoveLaws.{all-moved}
use Rattle.vcd_reader.proofs.reading.move_changes.Goals as goal

pub loop-place-init : goal.loop-place-init
loop-place-init c = record {
  moved = λ front high long i d lt. absurd (omega (arith, lt));
  rest = λ i d le. refl;
}

pub loop-place-preserved-then-change-eq0 : goal.loop-place-preserved-then-change-eq0
loop-place-preserved-then-change-eq0 c = record {
  moved = λ front high long.
      let now = c.loop-place.changes in
      let n = c.loop-place.place in
      let inside : n < length now = omega (arith, c.loop-place-test.true, c.loop-place.auto.changes) in
      and-this (stored_change (front ++ high)) (stored_change high) c.args.changes.now now n
      (c.loop-place.invariant.moved front high long)
      (λ d.
      stored-low (front ++ high) high (get_or now n d)
      (ap (λ (x : Change). x.high) (get_or_default now n d _ inside) ∙ c.if-change-eq0.true)
      ∙ ap (stored_change high) (c.loop-place.invariant.rest n d (omega arith)));
  rest = λ i d le. c.loop-place.invariant.rest i d (omega (arith, le));
}

pub loop-place-preserved : goal.loop-place-preserved
loop-place-preserved c =
    let now = c.loop-place.changes in
    let n = c.loop-place.place in
    let inside : n < length now = omega (arith, c.loop-place-test.true, c.loop-place.auto.changes) in
    record {
      moved = λ front high long.
          more-moved (stored_change (front ++ high)) (stored_change high) c.args.changes.now now n _ inside
          (c.loop-place.invariant.moved front high long)
          (λ d.
          stored-moved front high _ c.args.by c.in-Some.high long c.if-change-eq0.false c.in-Some.ensures.1
          ∙ ap (stored_change high)
          (get_or_default now n _ d inside ∙ c.loop-place.invariant.rest n d (omega arith)));
      rest = others-stay (stored_change []) (stored_change []) c.args.changes.now now n _ c.loop-place.invariant.rest;
    }

pub returns-clause-moved : goal.returns-clause-moved
returns-clause-moved c = λ told front high long.
    all-moved (stored_change (front ++ high)) (stored_change high) c.args.changes.now c.loop-place.changes
    c.loop-place.auto.changes
    (λ i d lt. c.loop-place.invariant.moved front high long i d (omega (arith, lt, c.loop-place-test.false)))
