use Rattle.std.proofs.Common.{◌≡◌, ◌<◌, ◌≤◌, ◌-◌, Some, sym, refl, ap, ◌∙◌, length, arith, map}
use Rattle.std.specs.Prelude.{slice_get}
use Rattle.std.specs.Option.{is_some}
use Rattle.cycle_window.specs.Held.{end_in}
use Rattle.workers_core.specs.States.{held}
use Rattle.workers_core.specs.Standing.{monitor_state}
use Rattle.workers_core.specs.Parts.{core_state, worker_state}
use Rattle.workers_core.proofs.PlaceLaws as places
use Rattle.workers_core.proofs.CorePartLaws as laws
use Rattle.workers_core.proofs.ToldLaws as told
use Rattle.workers_core.proofs.core_parts.CoreParts.advance.Goals as goal

pub returns-then-is_err-clause-reply : goal.returns-then-is_err-clause-reply
returns-then-is_err-clause-reply c = λ g k over see.
    let f = c.args.self.now in
    let ms = f.monitors.items in
    let number = c.in-Some.number in
    let m = c.index_mut-monitor.result.now in
    let r = c.reserve.new.self in
    let below : number < length ms =
    omega (arith, c.if-number-len.false, c.len.ensures, f.monitors.ok.0) in
    let at : slice_get ms number ≡ Some m =
    laws.get-some ms number m below
    ∙ ap (λ x. Some x) (sym c.index_mut-monitor.ensures.value) in
    let stands = c.requires.sound.monitors number m at in
    let here : c.now-now.result ≡ m.machine.state.standing.now =
    c.now-now.ensures
    ∙ ap (λ x. x.machine.state.standing.now)
    (c.index.ensures ∙ laws.get-any ms number c.index.result.now m below
    ∙ sym c.index_mut-monitor.ensures.value) in
    let hand : held (map worker_state f.workers.items) c.args.worker ≡ Some number =
    cc (c.in-Some.is, c.held_by.ensures, c.as_slice.ensures.value) in
    let some : 1 ≤ c.args.clocks = omega (arith, c.if-clocks-eq0.false) in
    let left : c.args.clocks ≤ end_in f.window - m.machine.state.standing.now =
    omega (
      arith,
      here,
      c.bounds-end.ensures.end,
      c.saturating_sub.ensures,
      c.if-clocks-saturating_sub.false,
    ) in (
      ap is_some (laws.advancing g (core_state f) c.args.worker c.args.clocks number
          (monitor_state m) hand (laws.get-mapped monitor_state ms number m at) some left),
      laws.stayed (core_state f) ms number m r refl at c.reserve.ensures.same,
    )

pub returns-then-is_err-clause-sound : goal.returns-then-is_err-clause-sound
returns-then-is_err-clause-sound c =
    let f = c.args.self.now in
    let ms = f.monitors.items in
    let number = c.in-Some.number in
    let m = c.index_mut-monitor.result.now in
    let r = c.reserve.new.self in
    let below : number < length ms =
    omega (arith, c.if-number-len.false, c.len.ensures, f.monitors.ok.0) in
    let at : slice_get ms number ≡ Some m =
    laws.get-some ms number m below
    ∙ ap (λ x. Some x) (sym c.index_mut-monitor.ensures.value) in
    let stands = c.requires.sound.monitors number m at in
    record {
      monitors = laws.stands-set f.window ms number r c.requires.sound.monitors
          (places.stands-unmoved f.window m r stands c.reserve.ensures.same);
      known = laws.known-set ms f.board.items number r c.requires.sound.known;
      batches = laws.right-set f.window ms f.board.items number m r at
          (places.unmoved-same m r c.reserve.ensures.same) c.requires.sound.batches;
      told = told.told-set f.window ms f.board.items number m r at
          (places.unmoved-same m r c.reserve.ensures.same) c.requires.sound.told;
    }

pub advance-requires-clause-stands : goal.advance-requires-clause-stands
advance-requires-clause-stands c =
    let f = c.args.self.now in
    let ms = f.monitors.items in
    let number = c.in-Some.number in
    let m = c.index_mut-monitor.result.now in
    let r = c.reserve.new.self in
    let below : number < length ms =
    omega (arith, c.if-number-len.false, c.len.ensures, f.monitors.ok.0) in
    let at : slice_get ms number ≡ Some m =
    laws.get-some ms number m below
    ∙ ap (λ x. Some x) (sym c.index_mut-monitor.ensures.value) in
    let stands = c.requires.sound.monitors number m at in
    places.stands-unmoved f.window m r stands c.reserve.ensures.same

pub advance-requires-clause-spare : goal.advance-requires-clause-spare
advance-requires-clause-spare c =
    let f = c.args.self.now in
    let ms = f.monitors.items in
    let number = c.in-Some.number in
    let m = c.index_mut-monitor.result.now in
    let r = c.reserve.new.self in
    let below : number < length ms =
    omega (arith, c.if-number-len.false, c.len.ensures, f.monitors.ok.0) in
    let at : slice_get ms number ≡ Some m =
    laws.get-some ms number m below
    ∙ ap (λ x. Some x) (sym c.index_mut-monitor.ensures.value) in
    let stands = c.requires.sound.monitors number m at in
    let here : c.now-now.result ≡ m.machine.state.standing.now =
    c.now-now.ensures
    ∙ ap (λ x. x.machine.state.standing.now)
    (c.index.ensures ∙ laws.get-any ms number c.index.result.now m below
    ∙ sym c.index_mut-monitor.ensures.value) in
    let u = c.reserve.ensures.same in
    let after = places.stands-unmoved f.window m r stands u in
    let few = places.few-live f.window r after in
    let same : r.machine.state.standing.now ≡ m.machine.state.standing.now =
    ap (λ x. x.state.standing.now) u.machine in
    let room =
    laws.of-ok c.reserve.result (sym c.is_err.ensures.value ∙ c.if-is_err.false)
    c.reserve.ensures.room in
    omega (arith, room, few, after.declared, here, same)

pub returns-clause-reply : goal.returns-clause-reply
returns-clause-reply c = λ g k over see.
    let f = c.args.self.now in
    let ms = f.monitors.items in
    let number = c.in-Some.number in
    let m = c.index_mut-monitor.result.now in
    let r = c.reserve.new.self in
    let below : number < length ms =
    omega (arith, c.if-number-len.false, c.len.ensures, f.monitors.ok.0) in
    let at : slice_get ms number ≡ Some m =
    laws.get-some ms number m below
    ∙ ap (λ x. Some x) (sym c.index_mut-monitor.ensures.value) in
    let stands = c.requires.sound.monitors number m at in
    let here : c.now-now.result ≡ m.machine.state.standing.now =
    c.now-now.ensures
    ∙ ap (λ x. x.machine.state.standing.now)
    (c.index.ensures ∙ laws.get-any ms number c.index.result.now m below
    ∙ sym c.index_mut-monitor.ensures.value) in
    let hand : held (map worker_state f.workers.items) c.args.worker ≡ Some number =
    cc (c.in-Some.is, c.held_by.ensures, c.as_slice.ensures.value) in
    let some : 1 ≤ c.args.clocks = omega (arith, c.if-clocks-eq0.false) in
    let left : c.args.clocks ≤ end_in f.window - m.machine.state.standing.now =
    omega (
      arith,
      here,
      c.bounds-end.ensures.end,
      c.saturating_sub.ensures,
      c.if-clocks-saturating_sub.false,
    ) in
    let new = c.advance.new.self in
    let u = c.reserve.ensures.same in
    let same : r.machine.state.standing.now ≡ m.machine.state.standing.now =
    ap (λ x. x.state.standing.now) u.machine in
    laws.advancing g (core_state f) c.args.worker c.args.clocks number (monitor_state m) hand
    (laws.get-mapped monitor_state ms number m at) some left
    ∙ ap (λ x. Some x) (laws.went-on (core_state f) ms number _ new refl
    (laws.advanced-is f.window k g m r new c.args.clocks _ u (see number m at)
    (omega (arith, here, same)) (c.advance.ensures.moved k over)))

pub returns-clause-sound : goal.returns-clause-sound
returns-clause-sound c =
    let f = c.args.self.now in
    let ms = f.monitors.items in
    let number = c.in-Some.number in
    let m = c.index_mut-monitor.result.now in
    let r = c.reserve.new.self in
    let below : number < length ms =
    omega (arith, c.if-number-len.false, c.len.ensures, f.monitors.ok.0) in
    let at : slice_get ms number ≡ Some m =
    laws.get-some ms number m below
    ∙ ap (λ x. Some x) (sym c.index_mut-monitor.ensures.value) in
    let stands = c.requires.sound.monitors number m at in
    let new = c.advance.new.self in
    let same =
    places.same-all m r new (places.unmoved-same m r c.reserve.ensures.same)
    c.advance.ensures.same in
    record {
      monitors =
          laws.stands-set f.window ms number new c.requires.sound.monitors c.advance.ensures.stands;
      known = laws.known-set ms f.board.items number new c.requires.sound.known;
      batches =
          laws.right-set f.window ms f.board.items number m new at same c.requires.sound.batches;
      told = told.told-set f.window ms f.board.items number m new at same c.requires.sound.told;
    }

pub returns-then-is_err-clause-kept : goal.returns-then-is_err-clause-kept
returns-then-is_err-clause-kept c =
    let f = c.args.self.now in
    let ms = f.monitors.items in
    let number = c.in-Some.number in
    let m = c.index_mut-monitor.result.now in
    let r = c.reserve.new.self in
    let below : number < length ms =
    omega (arith, c.if-number-len.false, c.len.ensures, f.monitors.ok.0) in
    let at : slice_get ms number ≡ Some m =
    laws.get-some ms number m below
    ∙ ap (λ x. Some x) (sym c.index_mut-monitor.ensures.value) in
    record {
      columns = refl;
      size = refl;
      parts = laws.parts-set ms number m r at (places.unmoved-same m r c.reserve.ensures.same);
    }

pub returns-clause-kept : goal.returns-clause-kept
returns-clause-kept c =
    let f = c.args.self.now in
    let ms = f.monitors.items in
    let number = c.in-Some.number in
    let m = c.index_mut-monitor.result.now in
    let r = c.reserve.new.self in
    let below : number < length ms =
    omega (arith, c.if-number-len.false, c.len.ensures, f.monitors.ok.0) in
    let at : slice_get ms number ≡ Some m =
    laws.get-some ms number m below
    ∙ ap (λ x. Some x) (sym c.index_mut-monitor.ensures.value) in
    let new = c.advance.new.self in
    let same =
    places.same-all m r new (places.unmoved-same m r c.reserve.ensures.same)
    c.advance.ensures.same in
    record { columns = refl; size = refl; parts = laws.parts-set ms number m new at same }
