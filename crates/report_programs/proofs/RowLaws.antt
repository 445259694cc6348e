-- The rows of a program's signals, and of its suite's.
use Rattle.std.proofs.Common.{
  ◌≡◌,
  ◌∙◌,
  inl,
  inr,
  ℕ,
  zero,
  suc,
  ◌%◌,
  ◌^◌,
  ◌<◌,
  ◌≤◌,
  Bool,
  List,
  [],
  ◌∷◌,
  ◌++◌,
  length,
  map,
  cond,
  Option,
  Some,
  None,
  slice_get,
  refl,
  ap,
  sym,
  subst,
  arith,
  pow_pos,
}
use Rattle.std.specs.Prelude.{slice_index, slice_index_or, string_bytes}
use Rattle.std.specs.List.{AllByRecursion, AllZip, filter_map}
use Rattle.std.specs.Option.{option_map}
use Rattle.std.proofs.Math.Nat.{mod-lt}
use Rattle.std.proofs.lemmas.Bool.{cases_lt, eq-eqb}
use Rattle.std.proofs.lemmas.List.{length-map, get_or-map, get_or_past}
use Rattle.std.proofs.lemmas.Option.{slice_get_within}
use Rattle.assertions.specs.declared.signal.Signal.{Signal}
use Rattle.assertions.specs.declared.suite.Suite.{Suite}
use Rattle.bytecode_programs.specs.Values.{SlotData, ProgramData}
use Rattle.vcd_reader.specs.Numbers.{bits_value}
use Rattle.vcd_reader.specs.Values.{
  value_or_zero,
  value_at,
  digits_value,
  last_digits,
  changes_before,
}
use Rattle.vcd_reader.specs.Variables.{Declared, variable_named, size_of, code_number}
use Rattle.vcd_reader.specs.Dump.{Contents}
use Rattle.vcd_reader.proofs.ValueLaws.{digits}
use Rattle.cycle_window.specs.Bound.{Misfit, Wanted, misfit, or_refused, first_refused}
use Rattle.workers_core.specs.Jobs.{sampled}
use Rattle.cycle_window.specs.Ticks.{ticks_of, sample, row_of}
use Rattle.machine_batches.specs.Reported.{wanted_slot}
use Rattle.compiler.specs.Programs.{IsSlotOf}
use Rattle.compiler.proofs.ListLaws.{some-one, map-twice, map-alike, by-index}
use Rattle.compiler_laws.specs.ProgramLaws.{AreSuiteRows, picked_row}
use Rattle.report_programs.specs.Lines.{IsWatched, AreVariables, rows_at}

-- the value of a variable fits it
value-fits : (size : ℕ) (o : Option (List ℕ)) → size ≤ 128 → value_or_zero size o < 2 ^ size
value-fits size None le = pow_pos size
value-fits size (Some ds) le =
    let is : digits_value size ds ≡ bits_value ds % 2 ^ size = digits size ds le in
    let cut : bits_value ds % 2 ^ size < 2 ^ size = mod-lt (bits_value ds) (pow_pos size) in
    omega arith

sample-fits : (c : Contents) (k v : ℕ) → size_of c.variables v ≤ 128
    → sample c k v < 2 ^ size_of c.variables v
unfolding value_at
sample-fits c k v le =
    value-fits (size_of c.variables v)
    (last_digits (code_number c.variables v) (changes_before c.steps k)) le

-- the variable of the signal at a place
pub record Found (vs : List Declared) (signals : List ℕ) (place : ℕ) (s : Signal) : Type 0 where
  pub variable : ℕ
  pub there : slice_get signals place ≡ Some variable
  pub named : variable_named vs (string_bytes s.path) ≡ Some variable
  pub wide : size_of vs variable ≡ s.width

first-found : (vs : List Declared) (s : Signal) (v : ℕ) (o : Option ℕ) → o ≡ Some v
    → option_map (size_of vs) o ≡ Some s.width → size_of vs v ≡ s.width
first-found vs s v o is wide =
    some-one (size_of vs v) s.width (sym (ap (option_map (size_of vs)) is) ∙ wide)

pub found : (vs : List Declared) (ss : List Signal) (signals : List ℕ) →
    map (λ (s : Signal). variable_named vs (string_bytes s.path)) ss
    ≡ map (λ (v : ℕ). Some v) signals →
    AllByRecursion (IsWatched vs) ss → (place : ℕ) (s : Signal) → slice_get ss place ≡ Some s →
    Found vs signals place s
found vs [] signals are watched place s is = absurd (omega (arith, slice_get_within [] place s is))
found vs (t ∷ ss) [] are watched place s is = absurd cc
found vs (t ∷ ss) (v ∷ signals) are watched zero s is =
    let here : variable_named vs (string_bytes t.path) ≡ Some v = cc in
    subst (Found vs (v ∷ signals) 0) (some-one t s is)
    (record {
      variable = v;
      there = refl;
      named = here;
      wide = first-found vs t v (variable_named vs (string_bytes t.path)) here watched.0;
    })
found vs (t ∷ ss) (v ∷ signals) are watched (suc place) s is =
    let rest : map (λ (s : Signal). variable_named vs (string_bytes s.path)) ss
    ≡ map (λ (v : ℕ). Some v) signals = cc in
    let later = found vs ss signals rest watched.1 place s is in
    record {
      variable = later.variable;
      there = later.there;
      named = later.named;
      wide = later.wide;
    }

-- the variables of slots are those of their places
pub record ArePicked (signals places variables : List ℕ) : Type 0 where
  pub are : variables ≡ picked_row places signals
  pub inside : AllByRecursion (λ place. place < length signals) places

pub are-picked : (vs : List Declared) (suite : Suite) (signals : List ℕ) →
    map (λ (s : Signal). variable_named vs (string_bytes s.path)) suite.names.items
    ≡ map (λ (v : ℕ). Some v) signals →
    AllByRecursion (IsWatched vs) suite.names.items →
    (places : List ℕ) (slots : List SlotData) (variables : List ℕ) →
    AllZip (IsSlotOf suite) places slots →
    map (λ (s : SlotData). variable_named vs s.path) slots ≡ map (λ (v : ℕ). Some v) variables →
    ArePicked signals places variables
are-picked vs suite signals named watched [] [] [] h are = record { are = refl; inside = tt }
are-picked vs suite signals named watched [] [] (v ∷ variables) h are = absurd cc
are-picked vs suite signals named watched [] (s ∷ slots) variables h are = absurd h
are-picked vs suite signals named watched (p ∷ places) [] variables h are = absurd h
are-picked vs suite signals named watched (p ∷ places) (s ∷ slots) [] h are = absurd cc
are-picked vs suite signals named watched (p ∷ places) (s ∷ slots) (v ∷ variables) h are =
    let here : variable_named vs s.path ≡ Some v = cc in
    let rest : map (λ (s : SlotData). variable_named vs s.path) slots
    ≡ map (λ (v : ℕ). Some v) variables = cc in
    let one = found vs suite.names.items signals named watched p h.0.signal h.0.is in
    let same : v ≡ one.variable =
    some-one v one.variable (sym here ∙ ap (variable_named vs) h.0.path ∙ one.named) in
    let first : v ≡ slice_index signals p =
    same ∙ sym (by-index signals p one.variable one.there) in
    let later = are-picked vs suite signals named watched places slots variables h.1 rest in
    record {
      are = ap (λ (n : ℕ). n ∷ variables) first
          ∙ ap (λ (ns : List ℕ). slice_index signals p ∷ ns) later.are;
      inside = (slice_get_within signals p one.variable one.there, later.inside);
    }

picked-row : (f : ℕ → ℕ) (signals places : List ℕ)
    → AllByRecursion (λ place. place < length signals) places
    → map f (picked_row places signals) ≡ picked_row places (map f signals)
picked-row f signals [] h = refl
picked-row f signals (p ∷ places) h =
    ap (λ (n : ℕ). n ∷ map f (picked_row places signals)) (sym (get_or-map f signals p 0 0 h.0))
    ∙ ap (λ (ns : List ℕ). slice_index (map f signals) p ∷ ns) (picked-row f signals places h.1)

-- the rows of a program's signals
pub picked-rows : (c : Contents) (code : ℕ) (signals places variables : List ℕ) →
    ArePicked signals places variables →
    rows_at c variables code ≡ map (picked_row places) (rows_at c signals code)
unfolding row_of
picked-rows c code signals places variables h =
    map-alike (row_of c variables) (λ (k : ℕ). picked_row places (row_of c signals k)) (ticks_of c code)
    (λ k. ap (map (sample c k)) h.are ∙ picked-row (sample c k) signals places h.inside)
    ∙ sym (map-twice (picked_row places) (row_of c signals) (ticks_of c code))

-- a row's values have the signals' widths
value-at : (c : Contents) (k : ℕ) (signals : List ℕ) (place : ℕ) (s : Signal)
    → Found c.variables signals place s → slice_index_or (row_of c signals k) place 0 < 2 ^ s.width
unfolding row_of
value-at c k signals place s one =
    let inside : place < length signals = slice_get_within signals place one.variable one.there in
    let at : slice_index_or (map (sample c k) signals) place 0 ≡ sample c k one.variable =
    get_or-map (sample c k) signals place 0 0 inside
    ∙ ap (sample c k) (by-index signals place one.variable one.there) in
    let narrow : size_of c.variables one.variable ≤ 128 = omega (arith, one.wide, s.at_most_128) in
    subst (λ (n : ℕ). n < 2 ^ s.width) (sym at)
    (subst (λ (w : ℕ). sample c k one.variable < 2 ^ w) one.wide
    (sample-fits c k one.variable narrow))

pub are-rows : (c : Contents) (suite : Suite) (signals : List ℕ) (code : ℕ) →
    AreVariables c suite signals →
    AllByRecursion (IsWatched c.variables) suite.names.items →
    AreSuiteRows suite (rows_at c signals code)
are-rows c suite signals code named watched k place s is =
    let rows = rows_at c signals code in
    let ticks = ticks_of c code in
    elim (cases_lt k (length ticks)) [
      | inl below ↦
          subst (λ (row : List ℕ). slice_index_or row place 0 < 2 ^ s.width)
          (sym (get_or-map (row_of c signals) ticks k 0 [] below))
          (value-at c (slice_index_or ticks k 0) signals place s
          (found c.variables suite.names.items signals named watched place s is))
      | inr past ↦
          let long : length rows ≤ k =
          subst (λ (n : ℕ). n ≤ k) (sym (length-map ticks (row_of c signals))) past in
          subst (λ (row : List ℕ). slice_index_or row place 0 < 2 ^ s.width)
          (sym (get_or_past rows k [] long)) (pow_pos s.width)
    ]

-- no signal of a program is refused
fits : (vs : List Declared) (o : Option ℕ) (w v : ℕ) → o ≡ Some v → size_of vs v ≡ w
    → misfit vs o w ≡ None
fits vs o w v is wide =
    ap (λ (o : Option ℕ). misfit vs o w) is
    ∙ ap (λ (b : Bool). cond b None (Some Misfit.OtherWidth)) (eq-eqb (size_of vs v) w wide)

pub none-refused : (vs : List Declared) (suite : Suite) (signals : List ℕ) →
    map (λ (s : Signal). variable_named vs (string_bytes s.path)) suite.names.items
    ≡ map (λ (v : ℕ). Some v) signals →
    AllByRecursion (IsWatched vs) suite.names.items →
    (places : List ℕ) (slots : List SlotData) (more : List Wanted) →
    AllZip (IsSlotOf suite) places slots →
    first_refused vs (map wanted_slot slots ++ more) ≡ first_refused vs more
none-refused vs suite signals named watched [] [] more h = refl
none-refused vs suite signals named watched [] (s ∷ slots) more h = absurd h
none-refused vs suite signals named watched (p ∷ places) [] more h = absurd h
none-refused vs suite signals named watched (p ∷ places) (s ∷ slots) more h =
    let one = found vs suite.names.items signals named watched p h.0.signal h.0.is in
    ap (λ (m : Option Misfit).
    or_refused m s.path (first_refused vs (map wanted_slot slots ++ more)))
    (fits vs (variable_named vs s.path) s.width one.variable
    (ap (variable_named vs) h.0.path ∙ one.named) (one.wide ∙ sym h.0.width))
    ∙ none-refused vs suite signals named watched places slots more h.1

-- the variables that slots name
all-named : (vs : List Declared) (suite : Suite) (signals : List ℕ) →
    map (λ (s : Signal). variable_named vs (string_bytes s.path)) suite.names.items
    ≡ map (λ (v : ℕ). Some v) signals →
    AllByRecursion (IsWatched vs) suite.names.items → (places : List ℕ) (slots : List SlotData) →
    AllZip (IsSlotOf suite) places slots →
    map (λ (s : SlotData). variable_named vs s.path) slots
    ≡ map (λ (x : ℕ). Some x) (filter_map (λ (s : SlotData). variable_named vs s.path) slots)
all-named vs suite signals named watched [] [] h = refl
all-named vs suite signals named watched [] (s ∷ slots) h = absurd h
all-named vs suite signals named watched (p ∷ places) [] h = absurd h
all-named vs suite signals named watched (p ∷ places) (s ∷ slots) h =
    let one = found vs suite.names.items signals named watched p h.0.signal h.0.is in
    let is : variable_named vs s.path ≡ Some one.variable =
    ap (variable_named vs) h.0.path ∙ one.named in
    rw is (ap (λ (xs : List (Option ℕ)). Some one.variable ∷ xs)
    (all-named vs suite signals named watched places slots h.1))

-- the rows of the variables that a program's signals name are picked from those of its suite's
pub own-rows :
    (c : Contents) (code : ℕ) (suite : Suite) (p : ProgramData) (signals places : List ℕ) →
    AreVariables c suite signals →
    AllByRecursion (IsWatched c.variables) suite.names.items →
    AllZip (IsSlotOf suite) places p.signals →
    rows_at c (sampled c.variables p) code ≡ map (picked_row places) (rows_at c signals code)
own-rows c code suite p signals places named watched slots =
    picked-rows c code signals places (sampled c.variables p)
    (are-picked c.variables suite signals named watched places p.signals (sampled c.variables p)
    slots
    (all-named c.variables suite signals named watched places p.signals slots))
