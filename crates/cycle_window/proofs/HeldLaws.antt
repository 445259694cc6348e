-- What a dump holds, against its contents.
use Rattle.std.proofs.Common.{◌≡◌, ℕ, suc, ◌+◌, ◌<◌, ◌≤◌, Bool, true, false, cond, eqb, List, [], ◌∷◌, ◌++◌, length}
use Rattle.std.proofs.Common.{get_or, take, map, Option, Some, None, refl, sym, ap, ◌∙◌, arith, add-one, ◌&&◌}
use Rattle.std.specs.Option.{option_map}
use Rattle.std.specs.Prelude.{is_some}
use Rattle.std.specs.List.{flat_map}
use Rattle.std.proofs.lemmas.List.{append_assoc, take-map, take_more, get_or-map, length-map, map-append}
use Rattle.vcd_reader.specs.declared.dump.Dump.{Dump}
use Rattle.vcd_reader.specs.declared.step.Step.{Step}
use Rattle.vcd_reader.specs.declared.variable.VarId.{VarId}
use Rattle.vcd_reader.specs.declared.step.Change.{Change}
use Rattle.vcd_reader.specs.Numbers.{bits_value}
use Rattle.vcd_reader.specs.Values.{
  ValueChange,
  Moment,
  or_else,
  last_digits,
  changes_before,
  value_or_zero,
  value_at,
}
use Rattle.vcd_reader.specs.Stored.{
  StoredChange,
  StoredStep,
  stored_value,
  stored_change,
  stored_step,
  kept_change,
  kept_step,
}
use Rattle.vcd_reader.specs.Dump.{Contents}
use Rattle.vcd_reader.specs.Held.{HoldsContents, steps_in, high_of, value_of_change, variables_of}
use Rattle.vcd_reader.specs.Variables.{code_number, size_of}
use Rattle.cycle_window.specs.Ticks.{is_tick, sample, row_of, ticks_of}
use Rattle.cycle_window.specs.declared.window.Window.{Window}
use Rattle.cycle_window.specs.Samples.{column_of}
use Rattle.cycle_window.specs.Changes.{changes_to, last_of}
use Rattle.cycle_window.specs.Held.{columns_in, clock_in, end_in, IsOver}

last_stored : ℕ → List StoredChange → Option ℕ
last_stored code [] = None
last_stored code (c ∷ cs) =
    or_else (last_stored code cs) (cond (eqb c.code code) (Some c.value) None)

map-or_else : {A B : Type 0} (f : A → B) (a b : Option A)
    → option_map f (or_else a b) ≡ or_else (option_map f a) (option_map f b)
map-or_else f None b = refl
map-or_else f (Some x) b = refl

map-cond : {A B : Type 0} (f : A → B) (b : Bool) (x : A)
    → option_map f (cond b (Some x) None) ≡ cond b (Some (f x)) None
map-cond f true x = refl
map-cond f false x = refl

from-changes : (high : List ℕ) (code : ℕ) (xs : List Change)
    → last_stored code (map (stored_change high) xs)
    ≡ option_map (stored_value high) (last_of code xs)
unfolding last_stored last_of stored_change
from-changes high code [] = refl
from-changes high code (x ∷ xs) =
    rw (from-changes high code xs)
    (sym (map-or_else (stored_value high) (last_of code xs)
    (cond (eqb x.code code) (Some x) None)
    ∙ ap (or_else (option_map (stored_value high) (last_of code xs)))
    (map-cond (stored_value high) (eqb x.code code) x)))

from-digits : (code : ℕ) (xs : List ValueChange)
    → last_stored code (map kept_change xs) ≡ option_map bits_value (last_digits code xs)
unfolding last_stored last_digits kept_change
from-digits code [] = refl
from-digits code (x ∷ xs) =
    rw (from-digits code xs)
    (sym (map-or_else bits_value (last_digits code xs)
    (cond (eqb x.code code) (Some x.digits) None)
    ∙ ap (or_else (option_map bits_value (last_digits code xs)))
    (map-cond bits_value (eqb x.code code) x.digits)))

stored-flat : (high : List ℕ) (xs : List Step)
    → flat_map (λ (s : StoredStep). s.changes) (map (stored_step high) xs)
    ≡ map (stored_change high) (flat_map (λ (s : Step). s.changes.items) xs)
unfolding stored_step
stored-flat high [] = refl
stored-flat high (x ∷ xs) =
    ap (λ (ys : List StoredChange). map (stored_change high) x.changes.items ++ ys)
    (stored-flat high xs)
    ∙ sym (map-append (stored_change high) x.changes.items
    (flat_map (λ (s : Step). s.changes.items) xs))

kept-flat : (xs : List Moment)
    → flat_map (λ (s : StoredStep). s.changes) (map kept_step xs)
    ≡ map kept_change (flat_map (λ (m : Moment). m.changes) xs)
unfolding kept_step
kept-flat [] = refl
kept-flat (x ∷ xs) =
    ap (λ (ys : List StoredChange). map kept_change x.changes ++ ys) (kept-flat xs)
    ∙ sym (map-append kept_change x.changes (flat_map (λ (m : Moment). m.changes) xs))

-- the last change of a code has the number of the last digits
pub held-last : (d : Dump) (c : Contents) → HoldsContents d c → (code k : ℕ)
    → option_map (value_of_change d) (last_of code (changes_to (steps_in d) k))
    ≡ option_map bits_value (last_digits code (changes_before c.steps k))
unfolding value_of_change changes_to changes_before
held-last d c h code k =
    let front : map (stored_step (high_of d)) (take k (steps_in d))
    ≡ map kept_step (take k c.steps) =
    sym (take-map (stored_step (high_of d)) k (steps_in d)) ∙ ap (take k) h.steps
    ∙ take-map kept_step k c.steps in
    sym (from-changes (high_of d) code
    (flat_map (λ (s : Step). s.changes.items) (take k (steps_in d))))
    ∙ ap (last_stored code)
    (sym (stored-flat (high_of d) (take k (steps_in d)))
    ∙ ap (flat_map (λ (s : StoredStep). s.changes)) front ∙ kept-flat (take k c.steps))
    ∙ from-digits code (flat_map (λ (m : Moment). m.changes) (take k c.steps))

pub held-length : (d : Dump) (c : Contents) → HoldsContents d c
    → length (steps_in d) ≡ length c.steps
held-length d c h =
    let a : length (map (stored_step (high_of d)) (steps_in d)) ≡ length (steps_in d) =
    rw length-map refl in
    let b : length (map kept_step c.steps) ≡ length c.steps = rw length-map refl in
    sym a ∙ ap (λ (xs : List StoredStep). length xs) h.steps ∙ b

-- an edge between two last changes is a tick
pub edge-tick : (d : Dump) (c : Contents) → HoldsContents d c
    → (code k size : ℕ) (before after : Option Change) (edge : Bool) → size ≡ 1
    → before ≡ last_of code (changes_to (steps_in d) k)
    → after ≡ last_of code (changes_to (steps_in d) (k + 1))
    → ((b a : Option (List ℕ)) → option_map (value_of_change d) before ≡ option_map bits_value b
    → option_map (value_of_change d) after ≡ option_map bits_value a
    → edge ≡ (is_some b && (eqb (value_or_zero size b) 0) && (eqb (value_or_zero size a) 1)))
    → edge ≡ is_tick c.steps code k
unfolding is_tick value_at
edge-tick d c h code k size before after edge one b a tells =
    tells (last_digits code (changes_before c.steps k))
    (last_digits code (changes_before c.steps (suc k)))
    (ap (option_map (value_of_change d)) b ∙ held-last d c h code k)
    (ap (option_map (value_of_change d)) a
    ∙ ap (λ (n : ℕ). option_map (value_of_change d) (last_of code (changes_to (steps_in d) n)))
    (add-one k) ∙ held-last d c h code (suc k))
    ∙ rw one refl

-- the value after a last change is the sample
pub sample-is : (d : Dump) (c : Contents) → HoldsContents d c
    → (k v value : ℕ) (last : Option Change)
    → last ≡ last_of (code_number (variables_of d) v) (changes_to (steps_in d) k)
    → ((o : Option (List ℕ)) → option_map (value_of_change d) last ≡ option_map bits_value o
    → value ≡ value_or_zero (size_of (variables_of d) v) o) → value ≡ sample c k v
unfolding value_at
sample-is d c h k v value last is tells =
    tells (last_digits (code_number (variables_of d) v) (changes_before c.steps k))
    (ap (option_map (value_of_change d)) is
    ∙ held-last d c h (code_number (variables_of d) v) k)
    ∙ rw h.variables refl

-- values with one more of a row
pub row-more :
    (c : Contents) (k : ℕ) (vs : List VarId) (i value : ℕ) (v : VarId) (before values : List ℕ)
    → i < length vs → v ≡ get_or vs i v
    → values ≡ before ++ map (sample c k) (take i (map (λ (x : VarId). x.place) vs))
    → value ≡ sample c k v.place
    → values ++ value ∷ []
    ≡ before ++ map (sample c k) (take (i + 1) (map (λ (x : VarId). x.place) vs))
row-more c k vs i value v before values lt at so-far is =
    let places = map (λ (x : VarId). x.place) vs in
    let long : length places ≡ length vs = rw length-map refl in
    let item : get_or places i 0 ≡ v.place =
    get_or-map (λ (x : VarId). x.place) vs i v 0 lt ∙ ap (λ (x : VarId). x.place) (sym at) in
    let more : take (i + 1) places ≡ take i places ++ v.place ∷ [] =
    take_more places i 0 (omega arith) ∙ ap (λ (n : ℕ). take i places ++ n ∷ []) item in
    let row : map (sample c k) (take i places) ++ value ∷ []
    ≡ map (sample c k) (take (i + 1) places) =
    ap (λ (n : ℕ). map (sample c k) (take i places) ++ n ∷ []) is
    ∙ sym (ap (map (sample c k)) more
    ∙ map-append (sample c k) (take i places) (v.place ∷ [])) in
    ap (λ (xs : List ℕ). xs ++ value ∷ []) so-far
    ∙ append_assoc before (map (sample c k) (take i places)) (value ∷ [])
    ∙ ap (λ (xs : List ℕ). before ++ xs) row

-- as many values as variables
pub row-long : (c : Contents) (places : List ℕ) (k : ℕ) → length (row_of c places k) ≡ length places
unfolding row_of
row-long c places k = length-map places (sample c k)

-- a column with one more row
pub column-more :
    (row : ℕ → List ℕ) (place : ℕ) (steps : List ℕ) (i : ℕ) (values new : List ℕ) (value : ℕ)
    → i < length steps → values ≡ column_of row place (take i steps)
    → value ≡ get_or (row (get_or steps i 0)) place 0 → new ≡ values ++ value ∷ []
    → new ≡ column_of row place (take (i + 1) steps)
column-more row place steps i values new value lt so-far is pushed =
    let at : ℕ → ℕ = λ k. get_or (row k) place 0 in
    pushed ∙ ap (λ (xs : List ℕ). xs ++ value ∷ []) so-far
    ∙ ap (λ (n : ℕ). map at (take i steps) ++ n ∷ []) is
    ∙ sym (ap (map at) (take_more steps i 0 lt) ∙ map-append at (take i steps) (get_or steps i 0 ∷ []))

-- a window over the contents ends with their ticks at the latest
pub over-end : (w : Window) (c : Contents) → IsOver w c
    → end_in w ≤ length (ticks_of c (clock_in (columns_in w)))
unfolding IsOver end_in columns_in
over-end w c over = omega (arith, w.inside, over.many)
