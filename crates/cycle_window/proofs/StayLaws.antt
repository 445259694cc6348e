-- How long values stay the same, and rows of them.
use Rattle.std.proofs.Common.{
  ◌≡◌,
  ◌≢◌,
  ◌∙◌,
  ◌+◌,
  ◌-◌,
  ◌<◌,
  ◌≤◌,
  ℕ,
  zero,
  suc,
  List,
  [],
  ◌∷◌,
  Option,
  Some,
  length,
  map,
  get_or,
  refl,
  ap,
  sym,
  subst,
  arith,
  inl,
  inr,
}
use Rattle.std.specs.Prelude.{slice_index, slice_range, slice_set, slice_get}
use Rattle.std.proofs.lemmas.Bool.{cases_lt}
use Rattle.std.proofs.lemmas.List.{get_or-set_same, get_or-set_other, get_or-map, length-map}
use Rattle.vcd_reader.specs.Dump.{Contents}
use Rattle.vcd_reader.specs.declared.variable.VarId.{VarId}
use Rattle.cycle_window.specs.declared.samples.Samples.{Samples}
use Rattle.cycle_window.specs.declared.window.Window.{Window}
use Rattle.cycle_window.specs.Ticks.{ticks_of, row_of}
use Rattle.cycle_window.specs.Picks.{picked, AreBelow}
use Rattle.cycle_window.specs.Samples.{stay_in, stay_at}
use Rattle.cycle_window.specs.Variables.{places}
use Rattle.cycle_window.specs.Values.{numbers}
use Rattle.cycle_window.specs.Stays.{StaysFor, RowStays}
use Rattle.cycle_window.specs.Held.{columns_in, dump_in, places_in, clock_in, first_in, end_in, IsOver}
use Rattle.cycle_window.proofs.PickLaws.{picked-row, picked-long}
use Rattle.cycle_window.proofs.SampleLaws.{there}
use Rattle.cycle_window.proofs.WindowLaws.{slice-at, slice-long, below-part, picked-part}

-- no place after its own, where there is none or the value there is another
pub stays-none : (values : List ℕ) (i : ℕ) → i < length values
    → (i + 1 < length values → get_or values (i + 1) 0 ≢ get_or values i 0) → StaysFor values i 0
stays-none values i lt other =
    let next : i + (0 + 1) ≡ i + 1 = omega arith in
    record {
      inside = omega (arith, lt);
      same = λ n le.
          let here : i + n ≡ i = omega (arith, le) in ap (λ (k : ℕ). get_or values k 0) here;
      ends = subst (λ (k : ℕ). k < length values → get_or values k 0 ≢ get_or values i 0) (sym next)
          other;
    }

stay-by : (values : List ℕ) (i count : ℕ) → get_or values (i + 1) 0 ≡ get_or values i 0
    → ((n : ℕ) → n ≤ count → get_or values ((i + 1) + n) 0 ≡ get_or values (i + 1) 0)
    → (n : ℕ) → n ≤ count + 1 → get_or values (i + n) 0 ≡ get_or values i 0
stay-by values i count same stays zero le =
    let here : i + 0 ≡ i = omega arith in ap (λ (k : ℕ). get_or values k 0) here
stay-by values i count same stays (suc n) le =
    let there : i + suc n ≡ (i + 1) + n = omega arith in
    ap (λ (k : ℕ). get_or values k 0) there ∙ stays n (omega (arith, le)) ∙ same

-- a place more than the same value at the next place
pub stays-more : (values : List ℕ) (i count : ℕ) → get_or values (i + 1) 0 ≡ get_or values i 0
    → StaysFor values (i + 1) count → StaysFor values i (count + 1)
stays-more values i count same next =
    let after : i + ((count + 1) + 1) ≡ (i + 1) + (count + 1) = omega arith in
    record {
      inside = omega (arith, next.inside);
      same = λ n le. stay-by values i count same next.same n le;
      ends = λ more equal.
          next.ends (omega (arith, more))
          (ap (λ (k : ℕ). get_or values k 0) (sym after) ∙ equal ∙ sym same);
    }

-- the notes from a place on, with that of the place
pub noted-more : (values stays : List ℕ) (p v : ℕ) → p < length stays
    → ((i : ℕ) → p < i → i < length values → StaysFor values i (get_or stays i 0))
    → StaysFor values p v
    → (i : ℕ) → p ≤ i → i < length values → StaysFor values i (get_or (slice_set stays p v) i 0)
noted-more values stays p v lt old here = λ i le inside.
    elim (cases_lt p i) [
      | inl less ↦
          subst (λ (k : ℕ). StaysFor values i k)
          (sym (get_or-set_other stays p i v 0 (λ e. omega (arith, e, less)))) (old i less inside)
      | inr more ↦
          let same : i ≡ p = omega (arith, le, more) in
          subst (λ (j : ℕ). StaysFor values j (get_or (slice_set stays p v) j 0)) (sym same)
          (subst (λ (k : ℕ). StaysFor values p k) (sym (get_or-set_same stays p v 0 lt)) here)
    ]

-- two rows with the same values at the places
picked-alike : (xs ys picks : List ℕ)
    → ((i : ℕ) → i < length picks → get_or xs (get_or picks i 0) 0 ≡ get_or ys (get_or picks i 0) 0)
    → picked xs picks ≡ picked ys picks
unfolding picked
picked-alike xs ys [] same = refl
picked-alike xs ys (p ∷ ps) same =
    let rest = picked-alike xs ys ps (λ i lt. same (suc i) (omega arith)) in
    ap (λ (n : ℕ). n ∷ picked xs ps) (same 0 (omega arith))
    ∙ ap (λ (zs : List ℕ). get_or ys p 0 ∷ zs) rest

-- one of the values at the places
picked-at : (xs picks : List ℕ) (i : ℕ) → i < length picks
    → get_or (picked xs picks) i 0 ≡ get_or xs (get_or picks i 0) 0
unfolding picked
picked-at xs [] i lt = absurd (omega (arith, lt))
picked-at xs (p ∷ ps) zero lt = refl
picked-at xs (p ∷ ps) (suc i) lt = picked-at xs ps i (omega (arith, lt))

-- what a function gives of places, where it gives what stands there
pub picked-by : (f : ℕ → ℕ) (xs picks : List ℕ)
    → ((i : ℕ) → i < length picks → f (get_or picks i 0) ≡ get_or xs (get_or picks i 0) 0)
    → map f picks ≡ picked xs picks
unfolding picked
picked-by f xs [] same = refl
picked-by f xs (p ∷ ps) same =
    let rest = picked-by f xs ps (λ i lt. same (suc i) (omega arith)) in
    ap (λ (n : ℕ). n ∷ map f ps) (same 0 (omega arith))
    ∙ ap (λ (zs : List ℕ). get_or xs p 0 ∷ zs) rest

-- there are as many picks as signals
pub picks-long : (w : Window) → length (places_in (columns_in w)) ≡ length w.columns.shared.picks.items
unfolding columns_in places_in
picks-long w = picked-long (places w.columns.shared.variables.items) w.columns.shared.picks.items

-- the value of a variable at a tick of the window
pub value-of : (w : Window) (c : Contents) (tick p : ℕ) (s : Samples) → IsOver w c → first_in w ≤ tick
    → tick < end_in w → slice_get w.samples.items p ≡ Some s
    → get_or (row_of c (places w.columns.shared.variables.items) (slice_index (ticks_of c w.columns.code) tick)) p 0
    ≡ get_or (numbers s.values) (tick - w.first) 0
unfolding columns_in clock_in first_in end_in IsOver dump_in
value-of w c tick p s over low high at =
    let vs = places w.columns.shared.variables.items in
    let ticks = ticks_of c w.columns.code in
    let end : w.end ≤ length ticks = omega (arith, w.inside, over.many) in
    let size = slice-long ticks w.first w.end w.ordered end in
    let here = slice-at ticks w.first w.end (tick - w.first) (omega arith) in
    let back : w.first + (tick - w.first) ≡ tick = omega arith in
    let value : ℕ → ℕ = λ k. get_or (row_of c vs k) p 0 in
    sym (ap (λ (xs : List ℕ). get_or xs (tick - w.first) 0) (w.rows c over.held p s at)
    ∙ get_or-map value (slice_range ticks w.first w.end) (tick - w.first) 0 0 (omega (arith, size))
    ∙ ap value (here ∙ ap (λ (n : ℕ). get_or ticks n 0) back))

-- the part of a row stays as long as each of its values
pub row-stays : (w : Window) (c : Contents) (tick from to ticks : ℕ) → IsOver w c → first_in w ≤ tick
    → tick + ticks < end_in w → from ≤ to → to ≤ length w.columns.shared.picks.items
    → ((i : ℕ) → i < length (slice_range w.columns.shared.picks.items from to)
    → ticks ≤ stay_at w.samples.items (tick - w.first)
    (get_or (slice_range w.columns.shared.picks.items from to) i 0))
    → RowStays c (clock_in (columns_in w)) (slice_range (places_in (columns_in w)) from to) tick ticks
unfolding columns_in places_in clock_in first_in end_in
row-stays w c tick from to ticks over low high order inside least = λ n le.
    let shared = w.columns.shared in
    let vs = places shared.variables.items in
    let width = length shared.variables.items in
    let picks = slice_range shared.picks.items from to in
    let all = ticks_of c w.columns.code in
    let wide : length vs ≡ width = length-map shared.variables.items (λ (v : VarId). v.place) in
    let fits : AreBelow width picks = below-part width from to shared.picks.items order inside shared.below in
    let below : AreBelow (length vs) picks = subst (λ (m : ℕ). AreBelow m picks) (sym wide) fits in
    let early = slice_index all tick in
    let late = slice_index all (tick + n) in
    let part = picked-part vs shared.picks.items from to in
    let same : (i : ℕ) → i < length picks
    → get_or (row_of c vs late) (get_or picks i 0) 0 ≡ get_or (row_of c vs early) (get_or picks i 0) 0 =
    λ i lt.
    let p = get_or picks i 0 in
    let it = there w.samples.items p (omega (arith, w.many, fits i lt)) in
    let full = w.full p it.0 it.1 in
    let stays = full.stays (tick - w.first) (omega (arith, full.long)) in
    let note = ap (λ (o : Option Samples). stay_in o (tick - w.first)) it.1 in
    let on : (tick + n) - w.first ≡ (tick - w.first) + n = omega arith in
    value-of w c (tick + n) p it.0 over (omega arith) (omega arith) it.1
    ∙ ap (λ (k : ℕ). get_or (numbers it.0.values) k 0) on
    ∙ stays.same n (omega (arith, le, least i lt, note))
    ∙ sym (value-of w c tick p it.0 over low (omega arith) it.1) in
    ap (λ (ps : List ℕ). row_of c ps late) (sym part)
    ∙ sym (picked-row c vs picks late below)
    ∙ picked-alike (row_of c vs late) (row_of c vs early) picks same
    ∙ picked-row c vs picks early below
    ∙ ap (λ (ps : List ℕ). row_of c ps early) part

-- the values of a part that is one at two ticks
part-alike : (w : Window) (c : Contents) (from to early late i : ℕ) → from ≤ to
    → to ≤ length w.columns.shared.picks.items
    → i < length (slice_range w.columns.shared.picks.items from to)
    → row_of c (slice_range (places_in (columns_in w)) from to) late
    ≡ row_of c (slice_range (places_in (columns_in w)) from to) early
    → get_or (row_of c (places w.columns.shared.variables.items) late)
    (get_or (slice_range w.columns.shared.picks.items from to) i 0) 0
    ≡ get_or (row_of c (places w.columns.shared.variables.items) early)
    (get_or (slice_range w.columns.shared.picks.items from to) i 0) 0
unfolding columns_in places_in
part-alike w c from to early late i order inside lt same =
    let shared = w.columns.shared in
    let vs = places shared.variables.items in
    let picks = slice_range shared.picks.items from to in
    let wide : length vs ≡ length shared.variables.items =
    length-map shared.variables.items (λ (v : VarId). v.place) in
    let below : AreBelow (length vs) picks =
    subst (λ (m : ℕ). AreBelow m picks) (sym wide)
    (below-part (length shared.variables.items) from to shared.picks.items order inside shared.below) in
    let part = picked-part vs shared.picks.items from to in
    let rows : picked (row_of c vs late) picks ≡ picked (row_of c vs early) picks =
    picked-row c vs picks late below
    ∙ ap (λ (ps : List ℕ). row_of c ps late) part
    ∙ same
    ∙ ap (λ (ps : List ℕ). row_of c ps early) (sym part)
    ∙ sym (picked-row c vs picks early below) in
    sym (picked-at (row_of c vs late) picks i lt)
    ∙ ap (λ (xs : List ℕ). get_or xs i 0) rows
    ∙ picked-at (row_of c vs early) picks i lt

-- each value of a part stays as long as the part does
pub row-noted : (w : Window) (c : Contents) (tick from to ticks i : ℕ) → IsOver w c → first_in w ≤ tick
    → tick + ticks < end_in w → from ≤ to → to ≤ length w.columns.shared.picks.items
    → i < length (slice_range w.columns.shared.picks.items from to)
    → RowStays c (clock_in (columns_in w)) (slice_range (places_in (columns_in w)) from to) tick ticks
    → ticks ≤ stay_at w.samples.items (tick - w.first)
    (get_or (slice_range w.columns.shared.picks.items from to) i 0)
unfolding columns_in clock_in first_in end_in
row-noted w c tick from to ticks i over low high order inside lt stays =
    let shared = w.columns.shared in
    let width = length shared.variables.items in
    let all = ticks_of c w.columns.code in
    let p = get_or (slice_range shared.picks.items from to) i 0 in
    let fits : p < width = below-part width from to shared.picks.items order inside shared.below i lt in
    let it = there w.samples.items p (omega (arith, w.many, fits)) in
    let full = w.full p it.0 it.1 in
    let values = numbers it.0.values in
    let place = tick - w.first in
    let note = get_or it.0.stays.items place 0 in
    let noted = full.stays place (omega (arith, full.long)) in
    let is : stay_at w.samples.items place p ≡ note = ap (λ (o : Option Samples). stay_in o place) it.1 in
    elim (cases_lt note ticks) [
      | inl less ↦
          let on : (tick + (note + 1)) - w.first ≡ place + (note + 1) = omega arith in
          let same : get_or values (place + (note + 1)) 0 ≡ get_or values place 0 =
          ap (λ (k : ℕ). get_or values k 0) (sym on)
          ∙ sym (value-of w c (tick + (note + 1)) p it.0 over (omega arith) (omega (arith, less, high)) it.1)
          ∙ part-alike w c from to (slice_index all tick) (slice_index all (tick + (note + 1))) i order inside
          lt (stays (note + 1) (omega (arith, less)))
          ∙ value-of w c tick p it.0 over low (omega arith) it.1 in
          absurd (noted.ends (omega (arith, less, high, full.long)) same)
      | inr enough ↦ omega (arith, enough, is)
    ]
