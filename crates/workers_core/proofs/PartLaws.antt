-- The parts of a row of all signals, one for each program.
use Rattle.std.proofs.Common.{
  ◌≡◌,
  ℕ,
  zero,
  suc,
  ◌+◌,
  ◌-◌,
  ◌≤◌,
  List,
  [],
  ◌∷◌,
  ◌++◌,
  length,
  drop,
  take,
  map,
  Option,
  Some,
  None,
  refl,
  sym,
  ap,
  ◌∙◌,
  subst,
  arith,
}
use Rattle.std.specs.Prelude.{slice_get, slice_range}
use Rattle.std.proofs.lemmas.List.{length-drop}
use Rattle.bytecode_programs.specs.Values.{SlotData, ProgramData}
use Rattle.vcd_reader.specs.Variables.{Declared, variable_named}
use Rattle.cycle_window.specs.Bound.{
  Wanted,
  Misfit,
  Refused,
  misfit,
  or_refused,
  first_refused,
  places_of,
}
use Rattle.machine_batches.specs.Reported.{wanted_slot}
use Rattle.workers_core.specs.Opening.{MonitorPart, part_at, parts_from}
use Rattle.workers_core.specs.Wanted.{wanted_in}

-- the variables of the first signals, and those of the rest
record Splits (vs : List Declared) (ss : List SlotData) (more : List Wanted) (xs : List ℕ) :
    Type 0 where
  front : map Some (take (length ss) xs) ≡ places_of vs (map wanted_slot ss)
  rest : map Some (drop (length ss) xs) ≡ places_of vs more
  long : length ss ≤ length xs

splits : (vs : List Declared) (ss : List SlotData) (more : List Wanted) (xs : List ℕ)
    → map Some xs ≡ places_of vs (map wanted_slot ss ++ more) → Splits vs ss more xs
splits vs [] more xs are = record { front = refl; rest = are; long = omega arith }
splits vs (s ∷ ss) more [] are = absurd cc
splits vs (s ∷ ss) more (x ∷ xs) are =
    let one : Some x ≡ variable_named vs s.path = cc in
    let later : map Some xs ≡ places_of vs (map wanted_slot ss ++ more) = cc in
    let r = splits vs ss more xs later in
    record {
      front = ap (λ (o : Option ℕ). o ∷ map Some (take (length ss) xs)) one
          ∙ ap (λ (os : List (Option ℕ)). variable_named vs s.path ∷ os) r.front;
      rest = r.rest;
      long = omega (arith, r.long);
    }

-- a part lies inside of the row, and has its signals' variables
pub record IsPlaced (vs : List Declared) (places : List ℕ) (q : MonitorPart) : Type 0 where
  pub order : q.from ≤ q.to
  pub inside : q.to ≤ length places
  pub are : map Some (slice_range places q.from q.to)
      ≡ places_of vs (map wanted_slot q.program.signals)

abbrev none : List ℕ
none = []

drop-none : (n : ℕ) → drop n none ≡ []
drop-none zero = refl
drop-none (suc n) = refl

drops : (a d : ℕ) (xs : List ℕ) → drop d (drop a xs) ≡ drop (a + d) xs
drops zero d xs = let e : d ≡ 0 + d = omega arith in ap (λ (n : ℕ). drop n xs) e
drops (suc a) d [] = drop-none d ∙ sym (drop-none (suc a + d))
drops (suc a) d (x ∷ xs) =
    let e : suc (a + d) ≡ suc a + d = omega arith in
    drops a d xs ∙ ap (λ (n : ℕ). drop n (x ∷ xs)) e

pub each-placed : (vs : List Declared) (places : List ℕ) (ps : List ProgramData) (from : ℕ) →
    from ≤ length places → map Some (drop from places) ≡ places_of vs (wanted_in ps) →
    (i : ℕ) (q : MonitorPart) → slice_get (parts_from from ps) i ≡ Some q → IsPlaced vs places q
each-placed vs places [] from le are i q is = absurd cc
each-placed vs places (p ∷ ps) from le are zero q is =
    let same : part_at from p ≡ q = cc in
    let s = splits vs p.signals (wanted_in ps) (drop from places) are in
    let n = length p.signals in
    let e : (from + n) - from ≡ n = omega arith in
    subst (IsPlaced vs places) same (record {
      order = omega arith;
      inside = omega (arith, s.long, length-drop from places, le);
      are = ap (λ (k : ℕ). map Some (take k (drop from places))) e ∙ s.front;
    })
each-placed vs places (p ∷ ps) from le are (suc i) q is =
    let s = splits vs p.signals (wanted_in ps) (drop from places) are in
    let n = length p.signals in
    each-placed vs places ps (from + n) (omega (arith, s.long, length-drop from places, le))
    (ap (map Some) (sym (drops from n places)) ∙ s.rest) i q is

-- no signal of the first ones is refused, and none of the rest
record Accepts (vs : List Declared) (ss : List SlotData) (more : List Wanted) : Type 0 where
  front : first_refused vs (map wanted_slot ss) ≡ None
  rest : first_refused vs more ≡ None

here-none : (m : Option Misfit) (path : List ℕ) (later : Option Refused)
    → or_refused m path later ≡ None → (m ≡ None) × (later ≡ None)
here-none None path later is = (refl, is)
here-none (Some m) path later is = absurd cc

accepts : (vs : List Declared) (ss : List SlotData) (more : List Wanted)
    → first_refused vs (map wanted_slot ss ++ more) ≡ None → Accepts vs ss more
accepts vs [] more none = record { front = refl; rest = none }
accepts vs (s ∷ ss) more none =
    let m = misfit vs (variable_named vs s.path) s.width in
    let h = here-none m s.path (first_refused vs (map wanted_slot ss ++ more)) none in
    let r = accepts vs ss more h.1 in
    record {
      front =
          ap (λ (o : Option Misfit). or_refused o s.path (first_refused vs (map wanted_slot ss)))
          h.0 ∙ r.front;
      rest = r.rest;
    }

pub each-accepted : (vs : List Declared) (ps : List ProgramData) (from : ℕ) →
    first_refused vs (wanted_in ps) ≡ None → (i : ℕ) (q : MonitorPart) →
    slice_get (parts_from from ps) i ≡ Some q →
    first_refused vs (map wanted_slot q.program.signals) ≡ None
each-accepted vs [] from none i q is = absurd cc
each-accepted vs (p ∷ ps) from none zero q is =
    let same : part_at from p ≡ q = cc in
    subst (λ (x : MonitorPart). first_refused vs (map wanted_slot x.program.signals) ≡ None) same
    (accepts vs p.signals (wanted_in ps) none).front
each-accepted vs (p ∷ ps) from none (suc i) q is =
    each-accepted vs ps (from + length p.signals) (accepts vs p.signals (wanted_in ps) none).rest i
    q is
