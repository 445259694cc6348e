use Rattle.std.proofs.Common.{◌≡◌, ◌+◌, ◌-◌, ℕ, List, refl, sym, ap, ◌∙◌, subst, arith}
use Rattle.cycle_window.specs.Ticks.{ticks_of, row_of}
use Rattle.cycle_window.specs.Held.{columns_in, clock_in}
use Rattle.machine_batches.specs.Batches.{rows_between}
use Rattle.cycle_window.proofs.HeldLaws.{over-end}
use Rattle.workers_core.specs.declared.monitor.Monitor.{Monitor}
use Rattle.machine_checked.specs.Outcomes.{done}
use Rattle.workers_core.specs.States.{MonitorState}
use Rattle.workers_core.specs.Standing.{monitor_state, variables_in, seen}
use Rattle.workers_core.specs.Standing.{IsSame, HasGone}
use Rattle.workers_core.proofs.PlaceLaws as laws
use Rattle.workers_core.proofs.monitor.Monitor.advance.Goals as goal

pub run-requires-clause-row : goal.run-requires-clause-row
run-requires-clause-row c =
    laws.row-sampled c.args.window.now c.args.self.now c.loop-clock.self c.put_part.new.part.items
    c.loop-clock.clock c.requires.stands c.loop-clock.invariant.same c.put_part.ensures.part

pub loop-clock-init : goal.loop-clock-init
loop-clock-init c =
    let w = c.args.window.now in
    let old = c.args.self.now in
    let now = old.machine.state.standing.now in
    record {
      same = laws.same-self old;
      now = sym c.now-clock.ensures;
      ahead = omega (arith, c.now-clock.ensures);
      most = omega (arith, c.now-clock.ensures, c.requires.ahead);
      spare = omega (arith, c.now-clock.ensures, c.requires.spare);
      gone = λ k over.
          subst (λ (n : ℕ). HasGone (rows_between (seen w k old) now n) old old)
          (sym c.now-clock.ensures) (laws.gone-none (seen w k old) now old);
    }

-- what a monitor has come to does not hang on the room for its row
gone-same : (rows : List (List ℕ)) (old mid lent : Monitor) → monitor_state mid ≡ monitor_state lent
    → HasGone rows old mid → HasGone rows old lent
gone-same rows old mid lent is h = record {
  decided = h.decided;
  ran = h.ran ∙ ap (λ (m : MonitorState). done (record { state = m.state; decided = h.decided }) 0) is;
  told = sym (ap (λ (m : MonitorState). m.decided) is) ∙ h.told;
}

pub loop-clock-preserved : goal.loop-clock-preserved
loop-clock-preserved c =
    let w = c.args.window.now in
    let old = c.args.self.now in
    let mid = c.loop-clock.self in
    let inv = c.loop-clock.invariant in
    let clock = c.loop-clock.clock in
    let row = c.put_part.new.part in
    let lent : Monitor =
    record {
      machine = mid.machine;
      from = mid.from;
      to = mid.to;
      row = row;
      attempts = mid.attempts;
      since = mid.since;
      decided = mid.decided;
      spare = mid.spare;
      wide = c.self-1.given.0;
    } in
    let same : IsSame old lent =
    record {
      program = inv.same.program;
      from = inv.same.from;
      to = inv.same.to;
      attempts = inv.same.attempts;
      since = inv.same.since;
    } in
    let more = c.run.ensures in
    let last = c.run.new.self in
    record {
      same = laws.same-all old lent last same more.same;
      now = omega (arith, more.now, inv.now);
      ahead = omega (arith, inv.ahead);
      most = omega (arith, c.min-clocks.ensures, c.loop-clock-test.true);
      spare = omega (arith, more.room, inv.spare, c.min-clocks.ensures, c.loop-clock-test.true);
      gone = λ k over.
          let ticks = ticks_of k (clock_in (columns_in w)) in
          let start = old.machine.state.standing.now in
          laws.gone-on (row_of k (variables_in w old)) ticks start clock (1 + c.min-clocks.result) row.items old lent
          last inv.ahead
          (omega (
            arith,
            over-end w k over,
            c.requires.inside,
            c.min-clocks.ensures,
            c.loop-clock-test.true,
          ))
          (λ i lt. laws.stays-seen w k old lent row.items clock c.same_after-same.result same
          (c.same_after-same.ensures.same k over) (c.put_part.ensures.part k over) i
          (omega (arith, c.min-clocks.ensures)))
          same
          (gone-same (rows_between (seen w k old) start clock) old mid lent refl (inv.gone k over)) more;
    }

pub returns-clause-stands : goal.returns-clause-stands
returns-clause-stands c =
    let w = c.args.window.now in
    let old = c.args.self.now in
    let inv = c.loop-clock.invariant in
    let end : c.loop-clock.clock ≡ c.args.to = omega (arith, inv.most, c.loop-clock-test.false) in
    laws.stands-on w old c.loop-clock.self c.args.to c.requires.stands inv.same (inv.now ∙ end)
    c.requires.ahead c.requires.inside
    (λ k over. subst
    (λ (n : ℕ). HasGone (rows_between (seen w k old) old.machine.state.standing.now n) old
    c.loop-clock.self) end (inv.gone k over))

pub returns-clause-moved : goal.returns-clause-moved
returns-clause-moved c = λ k over.
    let w = c.args.window.now in
    let old = c.args.self.now in
    let inv = c.loop-clock.invariant in
    let now = old.machine.state.standing.now in
    let end : c.loop-clock.clock ≡ c.args.to = omega (arith, inv.most, c.loop-clock-test.false) in
    let back : now + (c.args.to - now) ≡ c.loop-clock.clock = omega (arith, inv.ahead, end) in
    laws.gone-moved (rows_between (seen w k old) now (now + (c.args.to - now))) old
    c.loop-clock.self inv.same
    (subst (λ (n : ℕ). HasGone (rows_between (seen w k old) now n) old c.loop-clock.self) (sym back)
    (inv.gone k over))

pub returns-clause-place : goal.returns-clause-place
returns-clause-place c =
    let inv = c.loop-clock.invariant in
    let end : c.loop-clock.clock ≡ c.args.to = omega (arith, inv.most, c.loop-clock-test.false) in
    inv.now ∙ end
