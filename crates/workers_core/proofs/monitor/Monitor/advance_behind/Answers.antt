use Rattle.std.proofs.Common.{◌≡◌, ◌+◌, ◌-◌, ℕ, List, refl, sym, ap, ◌∙◌, subst, arith}
use Rattle.cycle_window.specs.Ticks.{ticks_of, row_of}
use Rattle.cycle_window.specs.Held.{columns_in, clock_in}
use Rattle.machine_batches.specs.Batches.{rows_between}
use Rattle.cycle_window.proofs.HeldLaws.{over-end}
use Rattle.workers_core.specs.declared.monitor.Monitor.{Monitor}
use Rattle.machine_checked.specs.Outcomes.{done}
use Rattle.workers_core.specs.States.{MonitorState}
use Rattle.workers_core.specs.Standing.{monitor_state, variables_in, seen}
use Rattle.workers_core.specs.Standing.{IsSame, HasGone}
use Rattle.workers_core.proofs.PlaceLaws as laws
use Rattle.workers_core.proofs.monitor.Monitor.advance_behind.Goals as goal

pub run-requires-clause-row : goal.run-requires-clause-row
run-requires-clause-row c =
    laws.row-fitting c.args.window.now c.args.self.now c.loop-tick.self c.put_part.new.part.items
    c.loop-tick.tick c.requires.stands.fits c.loop-tick.invariant.same c.put_part.ensures.part

pub loop-tick-init : goal.loop-tick-init
loop-tick-init c =
    let w = c.args.window.now in
    let old = c.args.self.now in
    let start = old.machine.state.standing.now - c.args.before in
    record {
      same = laws.same-self old;
      now = omega (arith, c.now.ensures, c.requires.stands.low);
      ahead = omega (arith, c.now.ensures);
      most = omega (arith, c.now.ensures, c.requires.ahead);
      ends = omega (arith, c.requires.stands.low, c.requires.ahead);
      spare = omega (arith, c.now.ensures, c.requires.spare, c.requires.stands.low);
      gone = λ k over.
          subst (λ (n : ℕ). HasGone (rows_between (seen w k old) start (n - c.args.before)) old old)
          (sym c.now.ensures) (laws.gone-none (seen w k old) start old);
    }

-- what a monitor has come to does not hang on the room for its row
gone-same : (rows : List (List ℕ)) (old mid lent : Monitor) → monitor_state mid ≡ monitor_state lent
    → HasGone rows old mid → HasGone rows old lent
gone-same rows old mid lent is h = record {
  decided = h.decided;
  ran = h.ran ∙ ap (λ (m : MonitorState). done (record { state = m.state; decided = h.decided }) 0) is;
  told = sym (ap (λ (m : MonitorState). m.decided) is) ∙ h.told;
}

pub loop-tick-preserved : goal.loop-tick-preserved
loop-tick-preserved c =
    let w = c.args.window.now in
    let old = c.args.self.now in
    let mid = c.loop-tick.self in
    let inv = c.loop-tick.invariant in
    let tick = c.loop-tick.tick in
    let row = c.put_part.new.part in
    let lent : Monitor =
    record {
      machine = mid.machine;
      from = mid.from;
      to = mid.to;
      row = row;
      attempts = mid.attempts;
      since = mid.since;
      decided = mid.decided;
      spare = mid.spare;
      wide = c.self-1.given.0;
    } in
    let same : IsSame old lent =
    record {
      program = inv.same.program;
      from = inv.same.from;
      to = inv.same.to;
      attempts = inv.same.attempts;
      since = inv.same.since;
    } in
    let more = c.run.ensures in
    let next = c.run.new.self in
    record {
      same = laws.same-all old lent next same more.same;
      now = omega (arith, more.now, inv.now);
      ahead = omega (arith, inv.ahead);
      most = omega (arith, c.min-clocks.ensures, c.loop-tick-test.true);
      ends = inv.ends;
      spare = omega (arith, more.room, inv.spare, c.min-clocks.ensures, c.loop-tick-test.true);
      gone = λ k over.
          let ticks = ticks_of k (clock_in (columns_in w)) in
          let start = old.machine.state.standing.now - c.args.before in
          laws.gone-on (row_of k (variables_in w old)) ticks start tick (1 + c.min-clocks.result) row.items old lent
          next inv.ahead
          (omega (
            arith,
            over-end w k over,
            c.requires.inside,
            inv.ends,
            c.min-clocks.ensures,
            c.loop-tick-test.true,
          ))
          (λ i lt. laws.stays-seen w k old lent row.items tick c.same_after-same.result same
          (c.same_after-same.ensures.same k over) (c.put_part.ensures.part k over) i
          (omega (arith, c.min-clocks.ensures)))
          same
          (gone-same (rows_between (seen w k old) start tick) old mid lent refl (inv.gone k over)) more;
    }

pub returns-clause-stands : goal.returns-clause-stands
returns-clause-stands c =
    let inv = c.loop-tick.invariant in
    let to_end : c.args.before + c.loop-tick.tick ≡ c.args.to =
    omega (arith, inv.most, inv.ends, c.loop-tick-test.false) in
    laws.stands-behind-on c.args.before c.args.window.now c.args.self.now c.loop-tick.self c.args.to
    c.requires.stands inv.same (inv.now ∙ to_end) c.requires.ahead c.requires.inside

pub returns-clause-gone : goal.returns-clause-gone
returns-clause-gone c = λ k over.
    let w = c.args.window.now in
    let old = c.args.self.now in
    let inv = c.loop-tick.invariant in
    let to_end : c.loop-tick.tick ≡ c.args.to - c.args.before =
    omega (arith, inv.most, inv.ends, c.loop-tick-test.false) in
    subst (λ (n : ℕ). HasGone (rows_between (seen w k old)
    (old.machine.state.standing.now - c.args.before) n) old c.loop-tick.self) to_end
    (inv.gone k over)

pub returns-clause-place : goal.returns-clause-place
returns-clause-place c =
    let inv = c.loop-tick.invariant in
    let to_end : c.args.before + c.loop-tick.tick ≡ c.args.to =
    omega (arith, inv.most, inv.ends, c.loop-tick-test.false) in
    inv.now ∙ to_end
