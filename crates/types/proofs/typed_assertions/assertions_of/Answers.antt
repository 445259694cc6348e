use Rattle.std.proofs.Common.{◌+◌, drop, subst}
use Rattle.std.proofs.lemmas.List.{drop_all}
use Rattle.types.specs.Made.{AreFitting}
use Rattle.types.proofs.MadeLaws.{resolved_at, half_more, half_all}
use Rattle.types.proofs.typed_assertions.assertions_of.Goals as goal

pub loop-one-preserved : goal.loop-one-preserved
loop-one-preserved c =
    let m = c.one-item.result in
    let cut = resolved_at c.args.resolved.now c.loop-one.one-index m c.loop-one-test.true c.one-item.is in
    record {
      fit = (subst AreFitting cut c.loop-one.invariant.fit).1;
      made = λ s columns booleans bodies all h.
          half_more s columns booleans bodies all _ m (drop (c.loop-one.one-index + 1) c.args.resolved.now)
          c.loop-one.assertions.items c.push.new.self.items c.in_ok-assertion_of.field-0 cut
          c.in_ok-push.ensures.items
          (λ before a r. c.in_ok-assertion_of.ensures s columns booleans bodies before a r)
          (c.loop-one.invariant.made s columns booleans bodies all h);
    }

pub returns : goal.returns
returns c = λ s columns booleans bodies all h.
    half_all s columns booleans bodies all _ c.loop-one.assertions.items
    (drop_all c.loop-one.one-index c.args.resolved.now c.loop-one-test.false)
    (c.loop-one.invariant.made s columns booleans bodies all h)
