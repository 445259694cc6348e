-- Rows step by step.
use Rattle.std.proofs.Common.{◌≡◌, ℕ, zero, suc, ◌+◌, ◌<◌, ◌≤◌, Bool, true, false, cond, eqb, ◌&&◌}
use Rattle.std.proofs.Common.{List, [], ◌∷◌, ◌++◌, length, get_or, take, map, Option, Some, None}
use Rattle.std.proofs.Common.{refl, sym, ap, ◌∙◌, arith, append_assoc}
use Rattle.std.specs.List.{flat_map, AllByRecursion}
use Rattle.std.proofs.Math.Seq.{take-suc}
use Rattle.std.proofs.lemmas.List.{map-append, append-nil, take_all}
use Rattle.std.proofs.lemmas.Grind.{flat_map-append}
use Rattle.vcd_reader.specs.Values.{ValueChange, Moment, or_else, last_digits, changes_before}
use Rattle.vcd_reader.specs.Values.{value_or_zero, value_at}
use Rattle.vcd_reader.specs.Variables.{Declared, code_number, size_of}
use Rattle.vcd_reader.specs.Dump.{Contents}
use Rattle.cycle_window.specs.Ticks.{is_tick, ticks_below, ticks_of, sample, row_of}
use Rattle.vcd_segments.specs.Rows.{Standing, none_stands, behind_step, behind, rises}
use Rattle.vcd_segments.specs.Rows.{is_tick_behind, row_behind, front_if, rows_from}
use Rattle.vcd_segments.specs.Segments.{rows_at, changes_in}
use Rattle.vcd_segments.proofs.StandingLaws.{last_digits-append, behind-none}

front_if-append : (tick : Bool) (row : List ℕ) (all front back : List (List ℕ))
    → all ≡ front ++ back → front_if tick row all ≡ front_if tick row front ++ back
front_if-append true row all front back e = ap (λ (rs : List (List ℕ)). row ∷ rs) e
front_if-append false row all front back e = e

-- rows of steps one after the other
pub rows-append : (vs : List Declared) (code : ℕ) (places : List ℕ) (before : Standing)
    (xs ys : List Moment)
    → rows_from vs code places before (xs ++ ys)
    ≡ rows_from vs code places before xs ++ rows_from vs code places (behind before xs) ys
unfolding rows_from behind
rows-append vs code places before [] ys = refl
rows-append vs code places before (x ∷ xs) ys =
    front_if-append (is_tick_behind before code x) (row_behind vs before places) _ _ _
    (rows-append vs code places (behind_step before x) xs ys)

-- the step at a place, where there is one
abbrev step_at : List Moment → ℕ → Moment
step_at steps n = get_or steps n (record { time = 0; changes = [] })

-- all changes up to a step and its own
changes-more : (steps : List Moment) (n : ℕ) → n < length steps
    → changes_before steps (suc n) ≡ changes_before steps n ++ (step_at steps n).changes
unfolding changes_before
changes-more steps n lt =
    ap changes_in (take-suc steps n (record { time = 0; changes = [] }) lt)
    ∙ flat_map-append (λ (m : Moment). m.changes) (take n steps) (step_at steps n ∷ [])
    ∙ ap (λ (cs : List ValueChange). changes_in (take n steps) ++ cs)
    (append-nil (step_at steps n).changes)

before-is : (steps : List Moment) (n code : ℕ)
    → behind none_stands (take n steps) code ≡ last_digits code (changes_before steps n)
unfolding changes_before
before-is steps n code = behind-none (take n steps) code

after-is : (steps : List Moment) (n code : ℕ) → n < length steps
    → behind_step (behind none_stands (take n steps)) (step_at steps n) code
    ≡ last_digits code (changes_before steps (suc n))
after-is steps n code lt =
    ap (or_else (last_digits code (step_at steps n).changes)) (before-is steps n code)
    ∙ sym (last_digits-append code (changes_before steps n) (step_at steps n).changes)
    ∙ sym (ap (last_digits code) (changes-more steps n lt))

tick-behind : (steps : List Moment) (code n : ℕ) → n < length steps
    → is_tick steps code n
    ≡ is_tick_behind (behind none_stands (take n steps)) code (step_at steps n)
unfolding is_tick value_at
tick-behind steps code n lt =
    sym (ap (λ (o : Option (List ℕ)). rises o
    (behind_step (behind none_stands (take n steps)) (step_at steps n) code))
    (before-is steps n code)
    ∙ ap (rises (last_digits code (changes_before steps n))) (after-is steps n code lt))

row-is : (c : Contents) (places : List ℕ) (n : ℕ)
    → row_of c places n ≡ row_behind c.variables (behind none_stands (take n c.steps)) places
unfolding row_of value_at
row-is c [] n = refl
row-is c (v ∷ vs) n =
    ap (λ (o : Option (List ℕ)). value_or_zero (size_of c.variables v) o ∷ map (sample c n) vs)
    (sym (before-is c.steps n (code_number c.variables v)))
    ∙ ap (λ (row : List ℕ). value_or_zero (size_of c.variables v)
    (behind none_stands (take n c.steps) (code_number c.variables v)) ∷ row) (row-is c vs n)

last-row : (f : ℕ → List ℕ) (ticks : List ℕ) (n : ℕ) (tick tick' : Bool) (row : List ℕ)
    (rows : List (List ℕ)) → map f ticks ≡ rows → tick ≡ tick' → f n ≡ row
    → map f (cond tick (ticks ++ n ∷ []) ticks) ≡ rows ++ front_if tick' row []
last-row f ticks n true tick' row rows e t r =
    map-append f ticks (n ∷ [])
    ∙ ap (λ (rs : List (List ℕ)). rs ++ f n ∷ []) e
    ∙ ap (λ (x : List ℕ). rows ++ x ∷ []) r
    ∙ ap (λ (b : Bool). rows ++ front_if b row []) t
last-row f ticks n false tick' row rows e t r =
    e ∙ sym (append-nil rows) ∙ ap (λ (b : Bool). rows ++ front_if b row []) t

-- the rows at the ticks among the first steps
rows-below : (c : Contents) (places : List ℕ) (code n : ℕ) → n ≤ length c.steps
    → map (row_of c places) (ticks_below c.steps code n)
    ≡ rows_from c.variables code places none_stands (take n c.steps)
unfolding ticks_below rows_from
rows-below c places code zero le = refl
rows-below c places code (suc n) le =
    let lt : n < length c.steps = omega arith in
    let step = step_at c.steps n in
    last-row (row_of c places) (ticks_below c.steps code n) n (is_tick c.steps code n)
    (is_tick_behind (behind none_stands (take n c.steps)) code step)
    (row_behind c.variables (behind none_stands (take n c.steps)) places)
    (rows_from c.variables code places none_stands (take n c.steps))
    (rows-below c places code n (omega arith)) (tick-behind c.steps code n lt) (row-is c places n)
    ∙ sym (rows-append c.variables code places none_stands (take n c.steps) (step ∷ []))
    ∙ sym (ap (rows_from c.variables code places none_stands)
    (take-suc c.steps n (record { time = 0; changes = [] }) lt))

pub rows-step-by-step : (c : Contents) (places : List ℕ) (code : ℕ)
    → rows_at c places code ≡ rows_from c.variables code places none_stands c.steps
unfolding ticks_of
rows-step-by-step c places code =
    rows-below c places code (length c.steps) (omega arith)
    ∙ ap (rows_from c.variables code places none_stands) (take_all (length c.steps) c.steps (omega arith))
