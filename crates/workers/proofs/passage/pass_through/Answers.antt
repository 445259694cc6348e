use Rattle.std.proofs.Common.{◌≡◌, ◌∙◌, refl, ap, subst, arith}
use Rattle.workers_core.specs.declared.monitor.Monitor.{Monitor}
use Rattle.workers_core.specs.Standing.{IsUnmoved}
use Rattle.workers_core.proofs.PlaceLaws.{stands-unmoved, unmoved-same, same-all, few-live}
use Rattle.workers.proofs.Placing.{at-end, batch-is}
use Rattle.workers.proofs.passage.pass_through.Goals as goal

pub advance-requires-clause-ahead : goal.advance-requires-clause-ahead
advance-requires-clause-ahead c =
    let r : Monitor = c.reserve.new.self in
    let u : IsUnmoved c.args.given.now.monitor.value r =
    subst (λ (m : Monitor). IsUnmoved m r) c.deref_mut-monitor.ensures.value c.reserve.ensures.same in
    let same : r.machine.state.standing.now ≡ c.args.given.now.monitor.value.machine.state.standing.now =
    ap (λ x. x.state.standing.now) u.machine in
    omega (arith, same, c.requires.here, c.requires.sized.0, c.bounds-first.ensures.end)

pub advance-requires-clause-stands : goal.advance-requires-clause-stands
advance-requires-clause-stands c =
    let r : Monitor = c.reserve.new.self in
    let u : IsUnmoved c.args.given.now.monitor.value r =
    subst (λ (m : Monitor). IsUnmoved m r) c.deref_mut-monitor.ensures.value c.reserve.ensures.same in
    stands-unmoved c.args.window.now c.args.given.now.monitor.value r c.requires.stands u

pub advance-requires-clause-spare : goal.advance-requires-clause-spare
advance-requires-clause-spare c =
    let r : Monitor = c.reserve.new.self in
    let u : IsUnmoved c.args.given.now.monitor.value r =
    subst (λ (m : Monitor). IsUnmoved m r) c.deref_mut-monitor.ensures.value c.reserve.ensures.same in
    let after = stands-unmoved c.args.window.now c.args.given.now.monitor.value r c.requires.stands u in
    let few = few-live c.args.window.now r after in
    let same : r.machine.state.standing.now ≡ c.args.given.now.monitor.value.machine.state.standing.now =
    ap (λ x. x.state.standing.now) u.machine in
    let room = c.in_ok-reserve.ensures.room in
    omega (arith, room, few, after.declared, same, c.requires.here, c.bounds-first.ensures.first)

pub returns-clause-through : goal.returns-clause-through
returns-clause-through c = λ j h here.
    let r : Monitor = c.reserve.new.self in
    let u : IsUnmoved c.args.given.now.monitor.value r =
    subst (λ (m : Monitor). IsUnmoved m r) c.deref_mut-monitor.ensures.value c.reserve.ensures.same in
    let same = same-all c.args.given.now.monitor.value r c.advance.new.self
    (unmoved-same c.args.given.now.monitor.value r u) c.advance.ensures.same in
    let now = c.advance.ensures.place ∙ c.bounds-first.ensures.end in (
      at-end j c.args.window.now c.args.given.now _ c.advance.new.self c.take_batch.result h c.requires.sized here
          refl same c.advance.ensures.stands now c.take_batch.ensures.cleared c.take_batch.ensures.batch,
      batch-is j c.args.window.now c.args.given.now _ c.advance.new.self c.take_batch.result h c.requires.sized here
          refl same c.advance.ensures.stands now c.take_batch.ensures.cleared c.take_batch.ensures.batch,
    )
