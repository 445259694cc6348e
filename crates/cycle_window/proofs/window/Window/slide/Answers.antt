use Rattle.std.proofs.Common.{◌≡◌, ◌∙◌, ◌≤◌, ◌<◌, ◌+◌, ◌-◌, ℕ, List, Vec, Some, min, length, vec_len, ap, arith, refl}
use Rattle.std.proofs.Common.{sym, subst, get_or, slice_range}
use Rattle.std.specs.Global.{Global}
use Rattle.std.specs.Prelude.{slice_get}
use Rattle.std.proofs.lemmas.Option.{slice_get_within}
use Rattle.std.proofs.Math.Logic.{∥∥₁_elim}
use Rattle.std.proofs.Math.Bridge.{le_prop}
use Rattle.vcd_reader.specs.declared.dump.Dump.{Dump}
use Rattle.vcd_reader.specs.declared.variable.VarId.{VarId}
use Rattle.vcd_reader.specs.Dump.{Contents}
use Rattle.vcd_reader.specs.Held.{HoldsContents, steps_in, variables_of}
use Rattle.vcd_reader.specs.Variables.{Declared}
use Rattle.vcd_reader.proofs.HeldLaws.{says-something}
use Rattle.cycle_window.specs.declared.clocks.Clocks.{Clocks}
use Rattle.cycle_window.specs.declared.window.Window.{Window}
use Rattle.cycle_window.specs.Ticks.{ticks_of, row_of}
use Rattle.cycle_window.specs.Variables.{places, AreOf}
use Rattle.cycle_window.specs.declared.samples.Samples.{Samples}
use Rattle.cycle_window.specs.Rows.{AreAhead, AreSamplesOf, IsBefore}
use Rattle.cycle_window.specs.Samples.{Each, EachTo, AreWide, IsRoomKept, IsNoted, IsFull, column_of}
use Rattle.cycle_window.specs.Cursors.{IsCursorOf}
use Rattle.cycle_window.specs.declared.values.Values.{Values}
use Rattle.cycle_window.specs.Values.{numbers, room_in, bits_in}
use Rattle.cycle_window.specs.Held.{
  ticks_in,
  code_in,
  dump_in,
  clock_in,
  columns_in,
  size_in,
  first_in,
  end_in,
  IsOver,
  IsWindowOf,
}
use Rattle.cycle_window.proofs.HeldLaws.{held-length}
use Rattle.cycle_window.proofs.WindowLaws.{ticks-ahead, ticks-behind, slice-long}
use Rattle.cycle_window.proofs.SampleLaws.{there}
use Rattle.cycle_window.proofs.window.Window.slide.Goals as goal

-- the clocks' ticks are as many as the columns say
many-rows : (d : Dump) (k : Clocks) (w : Window) → IsWindowOf w d k
    → length k.ticks.items ≤ w.columns.count
unfolding ticks_in columns_in clock_in IsOver
many-rows d k w same =
    ∥∥₁_elim (says-something d) le_prop (λ says.
    let ticks = ticks_of says.0 w.columns.code in
    let rows : w.columns.count ≡ length ticks = (same.over says.0 says.1).many in
    let clocks : length k.ticks.items ≡ length ticks =
    ap (λ (xs : List ℕ). length xs)
    (same.clocks says.0 says.1 ∙ ap (ticks_of says.0) same.same_clock) in
    omega (arith, rows, clocks))

-- there is room for the values at so many ticks, and for notes of them
fits : (w : Window) (n : ℕ) → n ≤ w.size → n ≤ w.columns.count → n ≤ min w.size w.columns.count
fits w n few inside = omega arith

-- the ticks of the next clocks lie ahead
slid-ahead : (d : Dump) (k : Clocks) (w : Window) → IsWindowOf w d k → (c : Contents)
    → HoldsContents d c → (first end : ℕ) → w.end ≤ first → first ≤ end → end ≤ length k.ticks.items
    → AreAhead w.cursor.at (length (steps_in d)) (slice_range k.ticks.items first end)
unfolding ticks_in code_in end_in
slid-ahead d k w same c h first end late le inside =
    let is = same.clocks c h in
    ticks-ahead c k.code w.cursor.at (length (steps_in d)) k.ticks.items is
    (sym (held-length d c h)) first end le inside
    (λ n nle nlt.
    subst (λ (xs : List ℕ). w.cursor.at ≤ get_or xs n 0) (sym is)
    (same.before c n h (omega (arith, late, nle)) (subst (λ (xs : List ℕ). n < length xs) is nlt)))

slid-rows : (d : Dump) (k : Clocks) (w : Window) → IsWindowOf w d k → (first end : ℕ)
    (new : List Samples) (ticks : List ℕ) (vs : List VarId) → vs ≡ w.columns.shared.variables.items
    → w.end ≤ first → first ≤ end → end ≤ length k.ticks.items
    → ticks ≡ slice_range k.ticks.items first end
    → ((c : Contents) → HoldsContents d c → AreAhead w.cursor.at (length (steps_in d)) ticks
    → Each (λ i s. numbers s.values ≡ column_of (row_of c (places vs)) i ticks) new)
    → AreSamplesOf w.columns.dump.now w.columns.code (places w.columns.shared.variables.items) first
    end new
unfolding ticks_in code_in end_in dump_in clock_in columns_in
slid-rows d k w same first end new ticks vs these late le inside are rows = λ c held i s at.
    let h : HoldsContents d c = subst (λ (x : Dump). HoldsContents x c) same.same_dump held in
    let is : k.ticks.items ≡ ticks_of c w.columns.code =
    same.clocks c h ∙ ap (ticks_of c) same.same_clock in
    let ahead = slid-ahead d k w same c h first end late le inside in
    rows c h (subst (λ (xs : List ℕ). AreAhead w.cursor.at (length (steps_in d)) xs) (sym are)
    ahead) i s at
    ∙ ap (λ (xs : List VarId). column_of (row_of c (places xs)) i ticks) these
    ∙ ap (column_of (row_of c (places w.columns.shared.variables.items)) i)
    (are ∙ ap (λ (xs : List ℕ). slice_range xs first end) is)

-- the samples that were filled
module _ (w : Window) (n : ℕ) (few : n ≤ w.size) (inside : n ≤ w.columns.count) (mid : List Samples)
    (filled : length mid ≡ length w.samples.items)
    (kept : EachTo (λ i. IsRoomKept) w.samples.items mid) where
  before-fill : (i : ℕ) (s : Samples) → slice_get mid i ≡ Some s
      → (x : Samples) × (slice_get w.samples.items i ≡ Some x)
  before-fill i s is = there w.samples.items i (omega (arith, slice_get_within mid i s is, filled))

  room-there : Each (λ i s. n ≤ length s.stays.items) mid
  room-there i s is =
      let was = before-fill i s is in
      let notes = ap (λ (xs : Vec ℕ Global). length xs.items) (kept i was.0 s was.1 is).notes in
      omega (arith, (w.full i was.0 was.1).notes, few, inside, notes)

  -- and noted
  module _ (long : Each (λ i s. length (numbers s.values) ≡ n) mid) (new : List Samples)
      (same : length new ≡ length mid) (noted : EachTo (λ i. IsNoted) mid new) where
    before-notes : (i : ℕ) (t : Samples) → slice_get new i ≡ Some t
        → (x : Samples) × (slice_get mid i ≡ Some x)
    before-notes i t is = there mid i (omega (arith, slice_get_within new i t is, same))

    now-full : Each (λ i. IsFull (min w.size w.columns.count) n) new
    now-full i t is =
        let one = before-notes i t is in
        let was = before-fill i one.0 one.1 in
        let note = noted i one.0 t one.1 is in
        let keep = kept i was.0 one.0 was.1 one.1 in
        let full = w.full i was.0 was.1 in
        let values = ap (λ (xs : Values). length (numbers xs)) note.values in
        let room = ap (λ (xs : Values). room_in xs) note.values in
        let notes = ap (λ (xs : Vec ℕ Global). length xs.items) keep.notes in
        record {
          long = values ∙ long i one.0 one.1;
          room = omega (arith, full.room, room, keep.room);
          notes = omega (arith, full.notes, notes, note.long);
          stays = note.stays;
        }

    same-values : (P : ℕ → List ℕ → Type 0) → Each (λ i s. P i (numbers s.values)) mid
        → Each (λ i s. P i (numbers s.values)) new
    same-values P all i t is =
        let one = before-notes i t is in
        subst (λ (xs : Values). P i (numbers xs)) (sym (noted i one.0 t one.1 is).values) (all i one.0 one.1)

    still-wide : (vs : List Declared) (ps : List ℕ) → AreWide vs ps w.samples.items → AreWide vs ps new
    still-wide vs ps wide i t is =
        let one = before-notes i t is in
        let was = before-fill i one.0 one.1 in
        let note = ap (λ (xs : Values). bits_in xs) (noted i one.0 t one.1 is).values in
        let keep = (kept i was.0 one.0 was.1 one.1).bits in
        omega (arith, wide i was.0 was.1, note, keep)

slid-before : (d : Dump) (k : Clocks) (w : Window) → IsWindowOf w d k
    → (first end at : ℕ) (ticks : List ℕ) → w.end ≤ first → first ≤ end → end ≤ length k.ticks.items
    → ticks ≡ slice_range k.ticks.items first end
    → ((most : ℕ) → AreAhead w.cursor.at (length (steps_in d)) ticks → w.cursor.at ≤ most
    → ((n : ℕ) → n < length ticks → get_or ticks n 0 ≤ most) → at ≤ most)
    → IsBefore d k.code at end
unfolding ticks_in code_in end_in
slid-before d k w same first end at ticks late le inside are reached = λ c n h nle nlt.
    let is = same.clocks c h in
    let ahead = slid-ahead d k w same c h first end late le inside in
    let lt : n < length k.ticks.items = subst (λ (xs : List ℕ). n < length xs) (sym is) nlt in
    reached (get_or (ticks_of c k.code) n 0)
    (subst (λ (xs : List ℕ). AreAhead w.cursor.at (length (steps_in d)) xs) (sym are) ahead)
    (same.before c n h (omega (arith, late, le, nle)) nlt)
    (subst (λ (xs : List ℕ). (m : ℕ) → m < length xs
    → get_or xs m 0 ≤ get_or (ticks_of c k.code) n 0) (sym are)
    (λ m mlt. subst
    (λ (xs : List ℕ). get_or (slice_range k.ticks.items first end) m 0 ≤ get_or xs n 0) is
    (ticks-behind c k.code k.ticks.items is first end le inside n nle lt m mlt)))

pub overflow_sub-len : goal.overflow_sub-len
unfolding end_in ticks_in
overflow_sub-len c =
    let long : vec_len c.args.clocks.now.ticks ≡ length c.args.clocks.now.ticks.items =
    c.args.clocks.now.ticks.ok.0 in
    omega (arith, c.requires.remain, c.len.ensures)

-- how many ticks are taken
taken-long : (k : Clocks) (first n : ℕ) (all : List ℕ) → all ≡ k.ticks.items
    → first + n ≤ length k.ticks.items → length (slice_range all first (first + n)) ≡ n
taken-long k first n all is end =
    let value = ap (λ (xs : List ℕ). length xs) is in
    let size = slice-long all first (first + n) (omega arith) (omega (arith, value, end)) in
    omega (arith, size)

pub fill_samples-requires-clause-bindable : goal.fill_samples-requires-clause-bindable
unfolding dump_in columns_in
fill_samples-requires-clause-bindable c =
    let w = c.args.self.now in
    subst (λ (vs : List VarId). AreOf c.args.dump.now vs) (sym c.as_slice.ensures.value)
    (subst (λ (d : Dump). AreOf d w.columns.shared.variables.items) c.requires.same.same_dump
    w.columns.bindable)

pub fill_samples-requires-clause-of : goal.fill_samples-requires-clause-of
fill_samples-requires-clause-of c =
    let w = c.args.self.now in
    subst (λ (vs : List VarId). IsCursorOf c.args.dump.now vs w.cursor)
    (sym c.as_slice.ensures.value) c.requires.same.cursor

pub fill_samples-requires-clause-fit : goal.fill_samples-requires-clause-fit
unfolding dump_in columns_in
fill_samples-requires-clause-fit c =
    let w = c.args.self.now in
    subst (λ (vs : List VarId). AreWide (variables_of c.args.dump.now) (places vs) w.samples.items)
    (sym c.as_slice.ensures.value)
    (subst (λ (d : Dump). AreWide (variables_of d) (places w.columns.shared.variables.items) w.samples.items)
    c.requires.same.same_dump w.fit)

pub fill_samples-requires-clause-room : goal.fill_samples-requires-clause-room
unfolding end_in ticks_in
fill_samples-requires-clause-room c = λ i s is.
    let w = c.args.self.now in
    let k = c.args.clocks.now in
    let f = c.args.self.now.end in
    let n = c.min.result in
    let long : vec_len k.ticks ≡ length k.ticks.items = k.ticks.ok.0 in
    let many = many-rows c.args.dump.now k w c.requires.same in
    let end : f + n ≤ length k.ticks.items =
    omega (arith, long, c.len.ensures, c.min.ensures, c.requires.remain) in
    let taken = taken-long k f n c.deref.result.now c.deref.ensures.value end in
    omega (
      arith,
      taken,
      (w.full i s is).room,
      fits w n (omega (arith, c.min.ensures)) (omega (arith, many, end)),
    )

pub note_each-requires-clause-room : goal.note_each-requires-clause-room
unfolding end_in ticks_in
note_each-requires-clause-room c = λ i s is.
    let w = c.args.self.now in
    let k = c.args.clocks.now in
    let f = c.args.self.now.end in
    let n = c.min.result in
    let long : vec_len k.ticks ≡ length k.ticks.items = k.ticks.ok.0 in
    let many = many-rows c.args.dump.now k w c.requires.same in
    let end : f + n ≤ length k.ticks.items =
    omega (arith, long, c.len.ensures, c.min.ensures, c.requires.remain) in
    let taken = taken-long k f n c.deref.result.now c.deref.ensures.value end in
    let filled = c.fill_samples.ensures in
    let room =
    room-there w n (omega (arith, c.min.ensures)) (omega (arith, many, end)) c.fill_samples.new.all.items
    filled.many filled.kept i s is in
    omega (arith, filled.full i s is, taken, room)

pub invariant_of-self : goal.invariant_of-self
unfolding end_in ticks_in
invariant_of-self c =
    let w = c.args.self.now in
    let k = c.args.clocks.now in
    let f = c.args.self.now.end in
    let n = c.min.result in
    let long : vec_len k.ticks ≡ length k.ticks.items = k.ticks.ok.0 in
    let many = many-rows c.args.dump.now k w c.requires.same in
    let end : f + n ≤ length k.ticks.items =
    omega (arith, long, c.len.ensures, c.min.ensures, c.requires.remain) in
    let few : n ≤ w.size = omega (arith, c.min.ensures) in
    let inside : n ≤ w.columns.count = omega (arith, many, end) in
    let taken = taken-long k f n c.deref.result.now c.deref.ensures.value end in
    let filled = c.fill_samples.ensures in
    let noted = c.note_each.ensures in
    let mid = c.fill_samples.new.all.items in
    let new = c.note_each.new.all.items in
    let count : (f + n) - f ≡ n = omega arith in
    let full : Each (λ i s. length (numbers s.values) ≡ n) mid = λ i s is. filled.full i s is ∙ taken in
    record {
      ordered = omega arith;
      inside = omega (arith, end, many);
      few = omega (arith, few);
      small = w.small;
      rows = slid-rows c.args.dump.now k w c.requires.same f (f + n) new _ _ c.as_slice.ensures.value
          (omega arith) (omega arith) end
          (ap (λ (xs : List ℕ). slice_range xs f (f + n)) c.deref.ensures.value)
          (λ c' h ahead.
          same-values w n few inside mid filled.many filled.kept full new noted.long noted.noted
          (λ i values. values ≡ column_of (row_of c' (places c.as_slice.result.now)) i
          (slice_range c.deref.result.now f (f + n))) (filled.rows c' h ahead));
      many = noted.long ∙ filled.many ∙ w.many;
      full = λ i s is.
          subst (λ (m : ℕ). IsFull (min w.size w.columns.count) m s) (sym count)
          (now-full w n few inside mid filled.many filled.kept full new noted.long noted.noted i s is);
      wide = omega (arith, w.wide, filled.wide);
      shown = w.shown;
      fit = still-wide w n few inside mid filled.many filled.kept full new noted.long noted.noted
          (variables_of w.columns.dump.now) (places w.columns.shared.variables.items) w.fit;
    }

pub returns-clause-same : goal.returns-clause-same
unfolding columns_in IsOver code_in end_in ticks_in
returns-clause-same c =
    let w = c.args.self.now in
    let k = c.args.clocks.now in
    let f = c.args.self.now.end in
    let n = c.min.result in
    let same = c.requires.same in
    let long : vec_len k.ticks ≡ length k.ticks.items = k.ticks.ok.0 in
    let inside : f + n ≤ length k.ticks.items =
    omega (arith, long, c.len.ensures, c.min.ensures, c.requires.remain) in
    record {
      same_dump = same.same_dump;
      same_clock = same.same_clock;
      clocks = same.clocks;
      over = same.over;
      cursor = subst (λ (vs : List VarId). IsCursorOf c.args.dump.now vs c.fill_samples.new.cursor)
          c.as_slice.ensures.value c.fill_samples.ensures.of;
      before = slid-before c.args.dump.now k w same f (f + n) _ _ (omega arith) (omega arith) inside
          (ap (λ (xs : List ℕ). slice_range xs f (f + n)) c.deref.ensures.value)
          c.fill_samples.ensures.reached;
    }

pub returns-clause-columns : goal.returns-clause-columns
unfolding columns_in
returns-clause-columns c = refl

pub returns-clause-size : goal.returns-clause-size
unfolding size_in
returns-clause-size c = refl

pub returns-clause-first : goal.returns-clause-first
unfolding first_in end_in
returns-clause-first c = refl

pub returns-clause-end : goal.returns-clause-end
unfolding end_in size_in ticks_in
returns-clause-end c =
    let long : vec_len c.args.clocks.now.ticks ≡ length c.args.clocks.now.ticks.items =
    c.args.clocks.now.ticks.ok.0 in
    omega (arith, c.requires.remain, c.len.ensures, c.min.ensures)

pub offset_bounds-deref-first : goal.offset_bounds-deref-first
unfolding end_in ticks_in
offset_bounds-deref-first c =
    omega (arith, ap length c.deref.ensures.value, c.deref.type_inv.1, c.requires.remain)

pub slice_bounds-ticks-end : goal.slice_bounds-ticks-end
unfolding end_in ticks_in
slice_bounds-ticks-end c =
    let long : vec_len c.args.clocks.now.ticks ≡ length c.args.clocks.now.ticks.items =
    c.args.clocks.now.ticks.ok.0 in
    omega (
      arith,
      ap length c.deref.ensures.value,
      long,
      c.len.ensures,
      c.min.ensures,
      c.requires.remain,
    )
