use Rattle.std.proofs.Common.{◌≡◌, ◌∙◌, ℕ, List, length, min, arith, refl, ap, subst}
use Rattle.vcd_reader.specs.declared.dump.Dump.{Dump}
use Rattle.vcd_reader.specs.declared.variable.VarId.{VarId}
use Rattle.cycle_window.specs.Values.{numbers}
use Rattle.cycle_window.specs.Held.{columns_in, dump_in, size_in, first_in, end_in, IsOver}
use Rattle.vcd_reader.specs.Held.{variables_of}
use Rattle.cycle_window.specs.Samples.{AreWide}
use Rattle.cycle_window.specs.Variables.{places}
use Rattle.cycle_window.specs.Cursors.{IsCursorOf}
use Rattle.cycle_window.proofs.window.Window.new.Goals as goal

pub invariant_of-result : goal.invariant_of-result
invariant_of-result c =
    let columns = c.args.columns in
    let long : length c.as_slice-variables.result.now ≡ length columns.shared.variables.items =
    ap length c.as_slice-variables.ensures.value in
    let size : c.min.result ≡ min c.clocks-size.result columns.count = c.min.ensures in
    let blank = c.in_ok-samples.ensures.blank in
    record {
      ordered = omega arith;
      inside = omega arith;
      few = omega arith;
      small = omega (arith, c.clocks-size.ensures.same, c.clocks-size.ensures.most);
      rows = λ c' h i s is. (blank i s is).values;
      many = c.in_ok-samples.ensures.many ∙ long;
      full = λ i s is.
          let none = blank i s is in
          let long : length (numbers s.values) ≡ 0 = ap (λ (xs : List ℕ). length xs) none.values in
          record {
            long = omega (arith, long);
            room = omega (arith, none.room, size);
            notes = omega (arith, none.notes, size);
            stays = λ k lt. absurd (omega (arith, lt, long));
          };
      wide = omega (arith, c.in_ok-read_row.ensures.capacity, long);
      shown = omega (arith, c.in_ok-shown_row.ensures.capacity, c.len.ensures, columns.shared.picks.ok.0);
      fit = subst
          (λ (vs : List VarId).
          AreWide (variables_of columns.dump.now) (places vs) c.in_ok-samples.samples.items)
          c.as_slice-variables.ensures.value c.in_ok-samples.ensures.wide;
    }

pub returns-clause-of : goal.returns-clause-of
unfolding columns_in end_in IsOver dump_in
returns-clause-of c = λ d k same same_clock clocks over. record {
  same_dump = same;
  same_clock = same_clock;
  clocks = clocks;
  over = over;
  cursor =
      subst (λ (x : Dump). IsCursorOf x c.args.columns.shared.variables.items c.in_ok-cursor.cursor)
      same
      (subst (λ (vs : List VarId). IsCursorOf c.args.columns.dump.now vs c.in_ok-cursor.cursor)
      c.as_slice-variables.ensures.value c.in_ok-cursor.ensures.of);
  before = λ c' n h le lt. omega (arith, c.in_ok-cursor.ensures.at);
}

pub returns-clause-columns : goal.returns-clause-columns
unfolding columns_in
returns-clause-columns c = refl

pub returns-clause-size : goal.returns-clause-size
unfolding size_in
returns-clause-size c = c.clocks-size.ensures.same

pub returns-clause-first : goal.returns-clause-first
unfolding first_in
returns-clause-first c = refl

pub returns-clause-end : goal.returns-clause-end
unfolding end_in
returns-clause-end c = refl

pub returns-clause-over : goal.returns-clause-over
unfolding IsOver
returns-clause-over c = λ c' h. h
