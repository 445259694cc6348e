use Rattle.std.proofs.Common.{◌≡◌, ◌∙◌, ◌≤◌, ◌-◌, ℕ, List, Vec, [], Some, length, take, drop, ap, arith, refl}
use Rattle.std.proofs.Common.{sym, slice_range}
use Rattle.std.specs.Global.{Global}
use Rattle.std.specs.Prelude.{slice_get}
use Rattle.std.proofs.lemmas.Option.{slice_get_within}
use Rattle.std.proofs.Math.Logic.{∥∥₁_elim}
use Rattle.std.proofs.Math.Bridge.{le_prop}
use Rattle.vcd_reader.specs.declared.dump.Dump.{Dump}
use Rattle.vcd_reader.proofs.HeldLaws.{says-something}
use Rattle.cycle_window.specs.declared.clocks.Clocks.{Clocks}
use Rattle.cycle_window.specs.declared.window.Window.{Window}
use Rattle.cycle_window.specs.declared.samples.Samples.{Samples}
use Rattle.cycle_window.specs.Ticks.{ticks_of, row_of}
use Rattle.cycle_window.specs.Variables.{places}
use Rattle.cycle_window.specs.Samples.{EachTo, IsCleared, column_of}
use Rattle.cycle_window.specs.Values.{numbers}
use Rattle.cycle_window.specs.Held.{columns_in, size_in, first_in, end_in, clock_in, ticks_in, code_in}
use Rattle.cycle_window.specs.Held.{IsOver, IsWindowOf}
use Rattle.cycle_window.proofs.SampleLaws.{there}
use Rattle.cycle_window.proofs.window.Window.follow.Goals as goal

-- the columns of two windows over the same clocks have as many rows
as-many : (d : Dump) (k : Clocks) (v w : Window) → IsWindowOf v d k → IsWindowOf w d k
    → v.columns.count ≤ w.columns.count
unfolding ticks_in columns_in clock_in IsOver
as-many d k v w one other =
    ∥∥₁_elim (says-something d) le_prop (λ says.
    let these : v.columns.count ≡ length (ticks_of says.0 v.columns.code) =
    (one.over says.0 says.1).many in
    let those : w.columns.count ≡ length (ticks_of says.0 w.columns.code) =
    (other.over says.0 says.1).many in
    let code : v.columns.code ≡ w.columns.code = sym one.same_clock ∙ other.same_clock in
    let same = ap (λ (n : ℕ). length (ticks_of says.0 n)) code in
    omega (arith, these, those, same))

-- no row stands between a place and the same place
none-between : (xs : List ℕ) (n : ℕ) → slice_range xs n n ≡ []
none-between xs n =
    let none : n - n ≡ 0 = omega arith in
    ap (λ (m : ℕ). take m (drop n xs)) none

-- the samples that were cleared
was : (old new : List Samples) → length new ≡ length old → EachTo (λ i. IsCleared) old new
    → (i : ℕ) (t : Samples) → slice_get new i ≡ Some t
    → (s : Samples) × (slice_get old i ≡ Some s) × IsCleared s t
was old new long cleared i t is =
    let one = there old i (omega (arith, slice_get_within new i t is, long)) in
    (one.0, one.1, cleared i one.0 t one.1 is)

pub invariant_of-self : goal.invariant_of-self
invariant_of-self c =
    let w = c.args.self.now in
    let v = c.args.other.now in
    let new = c.clear_each.new.all.items in
    let cleared = c.clear_each.ensures in
    let none : v.end - v.end ≡ 0 = omega arith in
    let before = was w.samples.items new cleared.long cleared.cleared in
    record {
      ordered = omega arith;
      inside = omega (
        arith,
        v.inside,
        as-many c.args.dump.now c.args.clocks.now v w c.requires.other c.requires.same,
      );
      few = omega arith;
      small = w.small;
      rows = λ c' h i t is.
          (before i t is).2.values
          ∙ sym (ap (column_of (row_of c' (places w.columns.shared.variables.items)) i)
          (none-between (ticks_of c' w.columns.code) v.end));
      many = cleared.long ∙ w.many;
      full = λ i t is.
          let one = before i t is in
          let full = w.full i one.0 one.1 in
          let notes = ap (λ (xs : Vec ℕ Global). length xs.items) one.2.notes in
          let long : length (numbers t.values) ≡ 0 = ap (λ (xs : List ℕ). length xs) one.2.values in
          record {
            long = omega (arith, long, none);
            room = omega (arith, full.room, one.2.room);
            notes = omega (arith, full.notes, notes);
            stays = λ n lt. absurd (omega (arith, lt, long));
          };
      wide = w.wide;
      shown = w.shown;
      fit = λ i t is.
          let one = before i t is in
          omega (arith, w.fit i one.0 one.1, one.2.bits);
    }

pub returns-clause-same : goal.returns-clause-same
unfolding columns_in IsOver code_in end_in ticks_in
returns-clause-same c =
    let w = c.args.self.now in
    let v = c.args.other.now in
    let same = c.requires.same in
    let other = c.requires.other in
    record {
      same_dump = same.same_dump;
      same_clock = same.same_clock;
      clocks = same.clocks;
      over = same.over;
      cursor = c.follow.ensures.of c.args.dump.now w.columns.shared.variables.items
          v.columns.shared.variables.items same.cursor other.cursor;
      before = λ c' n h le lt.
          omega (arith, c.follow.ensures.at, other.before c' n h le lt);
    }

pub returns-clause-columns : goal.returns-clause-columns
unfolding columns_in
returns-clause-columns c = refl

pub returns-clause-size : goal.returns-clause-size
unfolding size_in
returns-clause-size c = refl

pub returns-clause-first : goal.returns-clause-first
unfolding first_in end_in
returns-clause-first c = refl

pub returns-clause-end : goal.returns-clause-end
unfolding end_in
returns-clause-end c = refl
