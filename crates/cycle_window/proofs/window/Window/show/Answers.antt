use Rattle.std.proofs.Common.{◌≡◌, ◌∙◌, ◌<◌, ◌-◌, ◌++◌, ℕ, List, length, map, get_or}
use Rattle.std.specs.Prelude.{slice_index}
use Rattle.std.proofs.Common.{ap, subst, sym, arith, refl}
use Rattle.std.proofs.lemmas.List.{length-map}
use Rattle.vcd_reader.specs.declared.variable.VarId.{VarId}
use Rattle.cycle_window.specs.declared.samples.Samples.{Samples}
use Rattle.cycle_window.specs.Picks.{AreBelow}
use Rattle.cycle_window.specs.Samples.{Each, value_at, value_in}
use Rattle.cycle_window.specs.Variables.{places}
use Rattle.cycle_window.specs.Ticks.{ticks_of, row_of}
use Rattle.cycle_window.specs.Values.{numbers}
use Rattle.cycle_window.specs.Held.{columns_in, places_in, clock_in, first_in, end_in, size_in, code_in, ticks_in}
use Rattle.cycle_window.specs.Held.{IsOver}
use Rattle.cycle_window.proofs.PickLaws.{picked-row}
use Rattle.cycle_window.proofs.SampleLaws.{there}
use Rattle.cycle_window.proofs.StayLaws.{picked-by, value-of}
use Rattle.cycle_window.proofs.window.Window.show.Goals as goal

pub overflow_sub-place : goal.overflow_sub-place
unfolding first_in
overflow_sub-place c = c.requires.low

pub push_picked-requires-clause-below : goal.push_picked-requires-clause-below
push_picked-requires-clause-below c =
    let w = c.args.self.now in
    let shared = w.columns.shared in
    let long : length c.deref.result.now ≡ length shared.variables.items =
    ap (λ (xs : List Samples). length xs) c.deref.ensures.value ∙ w.many in
    subst (λ (n : ℕ). AreBelow n c.as_slice.result.now) (sym long)
    (subst (λ (ps : List ℕ). AreBelow (length shared.variables.items) ps) (sym c.as_slice.ensures.value)
    shared.below)

pub push_picked-requires-clause-inside : goal.push_picked-requires-clause-inside
unfolding first_in end_in
push_picked-requires-clause-inside c =
    let w = c.args.self.now in
    subst (λ (all : List Samples). Each (λ i s. c.args.tick - w.first < length (numbers s.values)) all)
    (sym c.deref.ensures.value)
    (λ i s is. omega (arith, (w.full i s is).long, c.requires.low, c.requires.high))

pub push_picked-requires-clause-room : goal.push_picked-requires-clause-room
push_picked-requires-clause-room c =
    let size = ap length c.as_slice.ensures.value in
    omega (arith, size, c.args.self.now.shown, c.clear.ensures.len, c.clear.ensures.capacity)

pub returns-clause-row : goal.returns-clause-row
unfolding places_in columns_in clock_in first_in end_in
returns-clause-row c = λ c' over.
    let w = c.args.self.now in
    let shared = w.columns.shared in
    let vs = places shared.variables.items in
    let picks = shared.picks.items in
    let n = c.args.tick - w.first in
    let lent = c.as_slice.result.now in
    let k = slice_index (ticks_of c' w.columns.code) c.args.tick in
    let wide : length vs ≡ length shared.variables.items =
    length-map shared.variables.items (λ (v : VarId). v.place) in
    let below : AreBelow (length vs) picks = subst (λ (m : ℕ). AreBelow m picks) (sym wide) shared.below in
    let each : (i : ℕ) → i < length picks
    → value_at w.samples.items n (get_or picks i 0) ≡ get_or (row_of c' vs k) (get_or picks i 0) 0 =
    λ i lt.
    let p = get_or picks i 0 in
    let it = there w.samples.items p (omega (arith, w.many, shared.below i lt)) in
    ap (λ o. value_in o n) it.1
    ∙ sym (value-of w c' c.args.tick p it.0 over c.requires.low c.requires.high it.1) in
    c.push_picked.ensures.values
    ∙ ap (λ (xs : List ℕ). xs ++ map (value_at c.deref.result.now n) lent) c.clear.ensures.items
    ∙ ap (λ (all : List Samples). map (value_at all n) lent) c.deref.ensures.value
    ∙ ap (map (value_at w.samples.items n)) c.as_slice.ensures.value
    ∙ picked-by (value_at w.samples.items n) (row_of c' vs k) picks each
    ∙ picked-row c' vs picks k below

pub returns-clause-stays : goal.returns-clause-stays
unfolding columns_in size_in first_in end_in IsOver code_in ticks_in
returns-clause-stays c = record {
  columns = refl;
  size = refl;
  first = refl;
  end = refl;
  over = λ c' over. over;
  of = λ d k same. record {
    same_dump = same.same_dump;
    same_clock = same.same_clock;
    clocks = same.clocks;
    over = same.over;
    cursor = same.cursor;
    before = same.before;
  };
}
