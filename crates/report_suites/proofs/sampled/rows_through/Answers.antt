use Rattle.std.proofs.Common.{◌∙◌, ◌≤◌, ℕ, List, length, map, sym, ap, subst, arith}
use Rattle.cycle_window.specs.Ticks.{ticks_of, row_of}
use Rattle.cycle_window.specs.Held.{ticks_in, places_in, columns_in, clock_in, end_in}
use Rattle.report_suites.proofs.SampledLaws.{no_row, all_rows}
use Rattle.report_suites.proofs.sampled.rows_through.Goals as goal

pub loop-alloc-init : goal.loop-alloc-init
loop-alloc-init c = record {
  of = c.in_ok-window.ensures.of c.args.dump.now c.args.clocks.now c.requires.dump
      (sym c.requires.clock) c.requires.clocks c.requires.columns;
  columns = c.in_ok-window.ensures.columns;
  size = c.in_ok-window.ensures.size;
  long = ap length c.new-rows.ensures ∙ sym c.in_ok-window.ensures.end;
  rows = λ contents holds. c.new-rows.ensures ∙ no_row _ _ _ c.in_ok-window.ensures.end;
}

pub returns : goal.returns
returns c = λ contents holds.
    let w = c.loop-alloc.window in
    let inv = c.loop-alloc.invariant in
    let ticks = ticks_of contents (clock_in (columns_in w)) in
    let last : length (ticks_in c.args.clocks.now) ≤ end_in w =
    omega (
      arith,
      c.loop-alloc-test.false,
      c.len.ensures.len,
      c.len-in-loop-alloc.ensures,
      inv.long,
    ) in
    let same = inv.of.clocks contents holds ∙ ap (ticks_of contents) inv.of.same_clock in
    inv.rows contents holds
    ∙ all_rows (row_of contents (places_in (columns_in w))) ticks (end_in w)
    (subst (λ (ts : List ℕ). length ts ≤ end_in w) same last)
    ∙ ap (λ columns. map (row_of contents (places_in columns)) ticks) inv.columns
    ∙ ap (λ code. map (row_of contents (places_in c.args.columns)) (ticks_of contents code))
    (sym inv.of.same_clock)
