use Rattle.std.proofs.Common.{◌∷◌, [], length, ap, ◌∙◌, arith, length-append}
use Rattle.cycle_window.specs.Ticks.{ticks_of, row_of}
use Rattle.cycle_window.specs.Held.{places_in, columns_in, clock_in}
use Rattle.cycle_window.proofs.HeldLaws.{over-end}
use Rattle.report_suites.proofs.SampledLaws.{row_more}
use Rattle.report_suites.proofs.sampled.push_rows.Goals as goal

pub loop-clock-preserved : goal.loop-clock-preserved
loop-clock-preserved c = record {
  long =
      omega (
        arith,
        ap length c.in_ok-push.ensures.ok,
        length-append c.loop-clock.rows (c.put_row.new.row.items ∷ []),
        c.loop-clock.invariant.long,
      );
  rows = λ contents over before.
      let window = c.args.window.now in
      row_more (row_of contents (places_in (columns_in window)))
      (ticks_of contents (clock_in (columns_in window))) c.loop-clock.clock c.loop-clock.rows
      c.push.new.self c.put_row.new.row.items
      (omega (arith, over-end window contents over, c.bounds-first.ensures.end))
      (c.loop-clock.invariant.rows contents over before)
      (c.put_row.ensures.row contents over) c.in_ok-push.ensures.ok;
}
