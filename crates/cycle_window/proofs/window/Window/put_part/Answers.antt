use Rattle.std.proofs.Common.{◌≡◌, ◌∙◌, ◌≤◌, ◌<◌, ◌-◌, ◌++◌, ℕ, List, length, map, get_or, slice_range}
use Rattle.std.specs.Prelude.{slice_index}
use Rattle.std.proofs.Common.{ap, subst, sym, arith}
use Rattle.std.proofs.lemmas.List.{length-map}
use Rattle.vcd_reader.specs.declared.variable.VarId.{VarId}
use Rattle.cycle_window.specs.declared.samples.Samples.{Samples}
use Rattle.cycle_window.specs.declared.window.Window.{Window}
use Rattle.cycle_window.specs.Picks.{AreBelow}
use Rattle.cycle_window.specs.Samples.{Each, value_in, value_at}
use Rattle.cycle_window.specs.Variables.{places}
use Rattle.cycle_window.specs.Ticks.{ticks_of, row_of}
use Rattle.cycle_window.specs.Values.{numbers}
use Rattle.cycle_window.specs.Held.{columns_in, places_in, clock_in, first_in, end_in}
use Rattle.cycle_window.proofs.PickLaws.{picked-row}
use Rattle.cycle_window.proofs.SampleLaws.{there}
use Rattle.cycle_window.proofs.WindowLaws.{slice-long, picked-part, below-part}
use Rattle.cycle_window.proofs.StayLaws.{picks-long, picked-by, value-of}
use Rattle.cycle_window.proofs.window.Window.put_part.Goals as goal

pub slice_bounds-picks-end : goal.slice_bounds-picks-end
slice_bounds-picks-end c =
    let value = ap length c.deref.ensures.value in
    omega (arith, value, picks-long c.args.self.now, c.requires.inside)

pub offset_bounds-deref-from : goal.offset_bounds-deref-from
offset_bounds-deref-from c =
    let value = ap length c.deref.ensures.value in
    omega (
      arith,
      value,
      c.deref.type_inv.1,
      picks-long c.args.self.now,
      c.requires.order,
      c.requires.inside,
    )

-- the picks of a part are below the number of the variables
below : (w : Window) (from to : ℕ) (picks : List ℕ) → from ≤ to
    → to ≤ length w.columns.shared.picks.items
    → picks ≡ slice_range w.columns.shared.picks.items from to
    → AreBelow (length w.columns.shared.variables.items) picks
below w from to picks le inside are =
    let shared = w.columns.shared in
    let n = length shared.variables.items in
    subst (λ (ps : List ℕ). AreBelow n ps) (sym are)
    (below-part n from to shared.picks.items le inside shared.below)

pub overflow_sub-place : goal.overflow_sub-place
unfolding first_in
overflow_sub-place c = c.requires.low

pub push_picked-requires-clause-below : goal.push_picked-requires-clause-below
push_picked-requires-clause-below c =
    let w = c.args.self.now in
    let inside : c.args.to ≤ length w.columns.shared.picks.items =
    omega (arith, picks-long w, c.requires.inside) in
    let picks = slice_range c.deref.result.now c.args.from c.args.to in
    let long : length c.deref-2.result.now ≡ length w.columns.shared.variables.items =
    ap (λ (xs : List Samples). length xs) c.deref-2.ensures.value ∙ w.many in
    subst (λ (n : ℕ). AreBelow n picks) (sym long)
    (below w c.args.from c.args.to picks c.requires.order inside
    (ap (λ (xs : List ℕ). slice_range xs c.args.from c.args.to) c.deref.ensures.value))

pub push_picked-requires-clause-inside : goal.push_picked-requires-clause-inside
unfolding first_in end_in
push_picked-requires-clause-inside c =
    let w = c.args.self.now in
    subst (λ (all : List Samples). Each (λ i s. c.args.tick - w.first < length (numbers s.values)) all)
    (sym c.deref-2.ensures.value)
    (λ i s is. omega (arith, (w.full i s is).long, c.requires.low, c.requires.high))

pub push_picked-requires-clause-room : goal.push_picked-requires-clause-room
push_picked-requires-clause-room c =
    let value = ap length c.deref.ensures.value in
    let size =
    slice-long c.deref.result.now c.args.from c.args.to c.requires.order
    (omega (arith, value, picks-long c.args.self.now, c.requires.inside)) in
    omega (arith, size, c.requires.room, c.clear.ensures.len, c.clear.ensures.capacity)

pub returns-clause-part : goal.returns-clause-part
unfolding places_in columns_in clock_in first_in end_in
returns-clause-part c = λ c' over.
    let w = c.args.self.now in
    let shared = w.columns.shared in
    let vs = places shared.variables.items in
    let picks = slice_range shared.picks.items c.args.from c.args.to in
    let n = c.args.tick - w.first in
    let these = ap (λ (xs : List ℕ). slice_range xs c.args.from c.args.to) c.deref.ensures.value in
    let lent = slice_range c.deref.result.now c.args.from c.args.to in
    let k = slice_index (ticks_of c' w.columns.code) c.args.tick in
    let inside : c.args.to ≤ length shared.picks.items =
    omega (arith, picks-long w, c.requires.inside) in
    let wide : length vs ≡ length shared.variables.items =
    length-map shared.variables.items (λ (v : VarId). v.place) in
    let fits : AreBelow (length shared.variables.items) picks =
    below-part (length shared.variables.items) c.args.from c.args.to shared.picks.items c.requires.order
    inside shared.below in
    let below : AreBelow (length vs) picks = subst (λ (m : ℕ). AreBelow m picks) (sym wide) fits in
    let each : (i : ℕ) → i < length picks
    → value_at w.samples.items n (get_or picks i 0) ≡ get_or (row_of c' vs k) (get_or picks i 0) 0 =
    λ i lt.
    let p = get_or picks i 0 in
    let it = there w.samples.items p (omega (arith, w.many, fits i lt)) in
    ap (λ o. value_in o n) it.1
    ∙ sym (value-of w c' c.args.tick p it.0 over c.requires.low c.requires.high it.1) in
    c.push_picked.ensures.values
    ∙ ap (λ (xs : List ℕ). xs ++ map (value_at c.deref-2.result.now n) lent) c.clear.ensures.items
    ∙ ap (λ (all : List Samples). map (value_at all n) lent) c.deref-2.ensures.value
    ∙ ap (map (value_at w.samples.items n)) these
    ∙ picked-by (value_at w.samples.items n) (row_of c' vs k) picks each
    ∙ picked-row c' vs picks k below
    ∙ ap (λ (xs : List ℕ). row_of c' xs k)
    (picked-part vs shared.picks.items c.args.from c.args.to)
