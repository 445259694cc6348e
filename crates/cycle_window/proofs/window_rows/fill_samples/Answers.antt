use Rattle.std.proofs.Common.{◌≡◌, ◌∙◌, ◌<◌, ◌++◌, ◌∷◌, [], ℕ, List, Some, length, get_or}
use Rattle.std.proofs.Common.{refl, ap, arith, take, ◌≤◌, ◌^◌, subst}
use Rattle.std.specs.Prelude.{slice_get}
use Rattle.std.proofs.lemmas.List.{take_all, length-append, length-map, get_or-map}
use Rattle.std.proofs.Math.Logic.{∥∥₁_elim}
use Rattle.std.proofs.Math.Bridge.{le_prop}
use Rattle.vcd_reader.specs.declared.dump.Dump.{Dump}
use Rattle.vcd_reader.specs.declared.variable.VarId.{VarId}
use Rattle.vcd_reader.specs.Dump.{Contents}
use Rattle.vcd_reader.specs.Variables.{Declared, size_of}
use Rattle.vcd_reader.specs.Held.{HoldsContents, variables_of}
use Rattle.vcd_reader.proofs.HeldLaws.{says-something}
use Rattle.std.proofs.lemmas.Option.{slice_get_within}
use Rattle.cycle_window.specs.declared.samples.Samples.{Samples}
use Rattle.cycle_window.specs.Ticks.{row_of, sample}
use Rattle.cycle_window.specs.Samples.{column_of}
use Rattle.cycle_window.specs.Variables.{places}
use Rattle.cycle_window.specs.Values.{numbers, bits_in}
use Rattle.cycle_window.proofs.HeldLaws.{column-more}
use Rattle.cycle_window.proofs.SampleLaws.{there, sample-kept}
use Rattle.cycle_window.proofs.window_rows.fill_samples.Goals as goal

-- what stood at a place of a list of the same length
before : (old new : List Samples) (i : ℕ) (s : Samples) → length new ≡ length old → slice_get new i ≡ Some s
    → (x : Samples) × (slice_get old i ≡ Some x)
before old new i s same is = there old i (omega (arith, slice_get_within new i s is, same))

pub loop-tick-init : goal.loop-tick-init
loop-tick-init c =
    let old = c.args.all.now.items in
    let new = c.clear_each.new.all.items in
    let cleared = c.clear_each.ensures in
    record {
      of = c.requires.of;
      many = cleared.long;
      wide = refl;
      kept = λ i s t was is.
          let one = cleared.cleared i s t was is in record { room = one.room; notes = one.notes; bits = one.bits };
      full = λ i t is.
          let was = before old new i t cleared.long is in
          ap (λ (xs : List ℕ). length xs) (cleared.cleared i was.0 t was.1 is).values;
      low = λ ahead n le lt. ahead.low n lt;
      rows = λ c' h ahead i t is.
          let was = before old new i t cleared.long is in
          (cleared.cleared i was.0 t was.1 is).values;
      reached = λ most ahead le all. le;
    }

pub push_each-requires-clause-room : goal.push_each-requires-clause-room
push_each-requires-clause-room c = λ i s is.
    let inv = c.loop-tick.invariant in
    let was = before c.args.all.now.items c.loop-tick.all.items i s inv.many is in
    let kept = inv.kept i was.0 s was.1 is in
    omega (arith, inv.full i s is, kept.room, c.requires.room i was.0 was.1, c.loop-tick-test.true)

-- a value of a row has room in the samples at its place
row-kept : (d : Dump) (vs : List VarId) (at i value : ℕ) (s : Samples) → i < length vs
    → ((c : Contents) → HoldsContents d c → value ≡ get_or (row_of c (places vs) at) i 0)
    → size_of (variables_of d) (get_or (places vs) i 0) ≤ bits_in s.values → value < 2 ^ bits_in s.values
unfolding row_of
row-kept d vs at i value s lt is wide =
    ∥∥₁_elim (says-something d) le_prop (λ says.
    let c = says.0 in
    let p = get_or (places vs) i 0 in
    let many : length (places vs) ≡ length vs = length-map vs (λ (v : VarId). v.place) in
    let own : value ≡ sample c at p =
    is c says.1 ∙ get_or-map (sample c at) (places vs) i 0 0 (omega (arith, lt, many)) in
    let le = subst (λ (ds : List Declared). size_of ds p ≤ bits_in s.values) says.1.variables wide in
    let fits = sample-kept c at p s.values le in
    omega (arith, own, fits))

pub push_each-requires-clause-fits : goal.push_each-requires-clause-fits
push_each-requires-clause-fits c = λ i s is.
    let inv = c.loop-tick.invariant in
    let vs = c.args.variables.now in
    let at = c.push_at.new.self.at in
    let was = before c.args.all.now.items c.loop-tick.all.items i s inv.many is in
    let kept = inv.kept i was.0 s was.1 is in
    let fit = c.requires.fit i was.0 was.1 in
    row-kept c.args.dump.now vs at i (get_or c.deref.result.now i 0) s
    (omega (arith, slice_get_within c.loop-tick.all.items i s is, inv.many, c.requires.many))
    (λ c' h. ap (λ (xs : List ℕ). get_or xs i 0)
    (c.deref.ensures.value ∙ c.push_at.ensures.row c' h
    ∙ ap (λ (xs : List ℕ). xs ++ row_of c' (places vs) at) c.clear.ensures.items))
    (omega (arith, fit, kept.bits))

pub loop-tick-preserved : goal.loop-tick-preserved
loop-tick-preserved c =
    let inv = c.loop-tick.invariant in
    let n = c.loop-tick.tick-index in
    let ticks = c.args.ticks.now in
    let lt : n < length ticks = c.loop-tick-test.true in
    let vs = c.args.variables.now in
    let mid = c.loop-tick.all.items in
    let new = c.push_each.new.all.items in
    let row = c.push_at.ensures in
    let each = c.push_each.ensures in
    record {
      of = row.of;
      many = each.long ∙ inv.many;
      wide = row.capacity ∙ c.clear.ensures.capacity ∙ inv.wide;
      kept = λ i s t was is.
          let one = before mid new i t each.long is in
          let pushed = each.pushed i one.0 t one.1 is in
          let kept = inv.kept i s one.0 was one.1 in
          record {
            room = pushed.room ∙ kept.room;
            notes = pushed.notes ∙ kept.notes;
            bits = pushed.bits ∙ kept.bits;
          };
      full = λ i t is.
          let one = before mid new i t each.long is in
          let pushed = each.pushed i one.0 t one.1 is in
          let long = ap (λ (xs : List ℕ). length xs) pushed.values
          ∙ length-append (numbers one.0.values) (get_or c.deref.result.now i 0 ∷ []) in
          omega (arith, long, inv.full i one.0 one.1);
      low = λ ahead k le ltk.
          let same = row.reached (inv.low ahead n (omega arith) lt) (ahead.high n lt) in
          let order = ahead.order n k (omega arith) ltk in
          omega (arith, same, order);
      rows = λ c' h ahead i t is.
          let one = before mid new i t each.long is in
          let pushed = each.pushed i one.0 t one.1 is in
          let same = row.reached (inv.low ahead n (omega arith) lt) (ahead.high n lt) in
          let all : c.deref.result.now ≡ row_of c' (places vs) (get_or ticks n 0) =
          c.deref.ensures.value ∙ row.row c' h
          ∙ ap (λ (xs : List ℕ). xs ++ row_of c' (places vs) c.push_at.new.self.at) c.clear.ensures.items
          ∙ ap (row_of c' (places vs)) same in
          column-more (row_of c' (places vs)) i ticks n (numbers one.0.values) (numbers t.values)
          (get_or c.deref.result.now i 0) lt (inv.rows c' h ahead i one.0 one.1)
          (ap (λ (xs : List ℕ). get_or xs i 0) all) pushed.values;
      reached = λ most ahead le all.
          let same = row.reached (inv.low ahead n (omega arith) lt) (ahead.high n lt) in
          let here = all n lt in
          omega (arith, same, here);
    }

pub returns-clause-full : goal.returns-clause-full
returns-clause-full c = λ i s is.
    omega (arith, c.loop-tick.invariant.full i s is, c.loop-tick-test.false, c.loop-tick.auto.tick-index-end)

pub returns-clause-rows : goal.returns-clause-rows
returns-clause-rows c = λ c' h ahead i s is.
    let n = c.loop-tick.tick-index in
    let all : take n c.args.ticks.now ≡ c.args.ticks.now = take_all n c.args.ticks.now (omega arith) in
    c.loop-tick.invariant.rows c' h ahead i s is
    ∙ ap (column_of (row_of c' (places c.args.variables.now)) i) all
