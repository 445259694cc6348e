-- The rows and the report of a suite.
use Rattle.std.proofs.Common.{
  ◌≡◌,
  ℕ,
  Bool,
  List,
  [],
  ◌∷◌,
  Option,
  Some,
  None,
  map,
  cond,
  refl,
  sym,
  ap,
  ◌∙◌,
  subst,
}
use Rattle.std.specs.Prelude.{string_bytes}
use Rattle.std.specs.Option.{option_map}
use Rattle.std.proofs.lemmas.Bool.{eq-eqb}
use Rattle.assertions.specs.declared.signal.Signal.{Signal}
use Rattle.assertions.specs.declared.suite.Suite.{Suite}
use Rattle.vcd_reader.specs.Variables.{Declared, variable_named, size_of}
use Rattle.vcd_reader.specs.Dump.{Contents}
use Rattle.cycle_window.specs.Bound.{
  Wanted,
  Misfit,
  misfit,
  or_refused,
  first_refused,
  places_of,
  IsClock,
  IsSignalFault,
}
use Rattle.cycle_window.specs.declared.fault.WindowFault.{WindowFault}
use Rattle.cycle_window.specs.declared.fault.WindowFault.TheVariants as windows
use Rattle.cycle_window.specs.Ticks.{ticks_of, row_of}
use Rattle.report_lines.specs.Lines.{ReportData}
use Rattle.report_suites.specs.Named.{AreNamed, wanted_in_suite}
use Rattle.report_suites.specs.Reported.{OverRows, Reports, rows_of}

-- the variables that signals' paths name
abbrev pub named_by : List Declared → List Signal → List (Option ℕ)
named_by vs ss = map (λ s. variable_named vs (string_bytes s.path)) ss

-- the place that is there
abbrev or_zero : Option ℕ → ℕ
or_zero None = 0
or_zero (Some v) = v

-- and after `Some` it is the place itself
back : (ps : List ℕ) → map or_zero (map (λ (v : ℕ). Some v) ps) ≡ ps
back [] = refl
back (p ∷ ps) = ap (λ l. p ∷ l) (back ps)

pub same_places : (ps qs : List ℕ) → map (λ (v : ℕ). Some v) ps ≡ map (λ (v : ℕ). Some v) qs
    → ps ≡ qs
same_places ps qs e = sym (back ps) ∙ ap (map or_zero) e ∙ back qs

-- a variable, if there is one of some size
record HasPlace (o : Option ℕ) : Type 0 where
  place : ℕ
  is : o ≡ Some place

has_place : (f : ℕ → ℕ) (o : Option ℕ) (w : ℕ) → option_map f o ≡ Some w → HasPlace o
has_place f None w e = absurd cc
has_place f (Some v) w e = record { place = v; is = refl }

-- each signal that is named has a variable
pub record HavePlaces (vs : List Declared) (ss : List Signal) : Type 0 where
  pub places : List ℕ
  pub are : named_by vs ss ≡ map (λ (v : ℕ). Some v) places

pub have_places : (vs : List Declared) (ss : List Signal) → AreNamed vs ss → HavePlaces vs ss
have_places vs [] h = record { places = []; are = refl }
have_places vs (s ∷ ss) h =
    let first = has_place (size_of vs) (variable_named vs (string_bytes s.path)) s.width h.0 in
    let rest = have_places vs ss h.1 in
    record {
      places = first.place ∷ rest.places;
      are =
          ap (λ (o : Option ℕ). o ∷ named_by vs ss) first.is
          ∙ ap (λ (os : List (Option ℕ)). Some first.place ∷ os) rest.are;
    }

-- none of them is refused
fits : (vs : List Declared) (o : Option ℕ) (w : ℕ) → option_map (size_of vs) o ≡ Some w
    → misfit vs o w ≡ None
fits vs None w e = absurd cc
fits vs (Some v) w e =
    let same : size_of vs v ≡ w = cc in
    ap (λ (b : Bool). cond b None (Some Misfit.OtherWidth)) (eq-eqb (size_of vs v) w same)

pub none_refused : (vs : List Declared) (ss : List Signal) → AreNamed vs ss
    → first_refused vs (map wanted_in_suite ss) ≡ None
none_refused vs [] h = refl
none_refused vs (s ∷ ss) h =
    ap (λ (m : Option Misfit).
    or_refused m (string_bytes s.path) (first_refused vs (map wanted_in_suite ss)))
    (fits vs (variable_named vs (string_bytes s.path)) s.width h.0) ∙ none_refused vs ss h.1

-- so only memory can lack
pub memory_alone : (vs : List Declared) (asked : List Wanted) (e : WindowFault)
    → first_refused vs asked ≡ None → IsSignalFault vs asked e → e ≡ windows.Memory
memory_alone vs asked windows.NoClock none h = elim h [ ]
memory_alone vs asked windows.ClockWidth none h = elim h [ ]
memory_alone vs asked windows.BadSize none h = elim h [ ]
memory_alone vs asked (windows.NoSignal p) none h = absurd cc
memory_alone vs asked (windows.SignalWidth p) none h = absurd cc
memory_alone vs asked windows.Memory none h = refl

wanted_places : (vs : List Declared) (ss : List Signal)
    → places_of vs (map wanted_in_suite ss) ≡ named_by vs ss
wanted_places vs [] = refl
wanted_places vs (s ∷ ss) =
    ap (λ (os : List (Option ℕ)). variable_named vs (string_bytes s.path) ∷ os)
    (wanted_places vs ss)

-- the places of columns that are bound to the signals
pub column_places :
    (vs : List Declared) (ss : List Signal) (asked : List Wanted) (ps signals : List ℕ)
    → map (λ (v : ℕ). Some v) ps ≡ places_of vs asked → asked ≡ map wanted_in_suite ss
    → named_by vs ss ≡ map (λ (v : ℕ). Some v) signals → ps ≡ signals
column_places vs ss asked ps signals bound is named =
    same_places ps signals (bound ∙ ap (places_of vs) is ∙ wanted_places vs ss ∙ named)

-- the report over the rows of the variables that a suite's paths name
pub reports : (c : Contents) (suite : Suite) (code : ℕ) (rows : List (List ℕ)) (r : ReportData)
    → IsClock c.variables (string_bytes suite.clock) code → HavePlaces c.variables suite.names.items
    → ((signals : List ℕ) → named_by c.variables suite.names.items ≡ map (λ (v : ℕ). Some v) signals
    → rows ≡ map (row_of c signals) (ticks_of c code)) → OverRows suite rows r
    → Reports c suite r
reports c suite code rows r (clock, clock_named, bit, is_code) have are over =
    let same : rows ≡ rows_of c clock have.places =
    are have.places have.are
    ∙ ap (λ (n : ℕ). map (row_of c have.places) (ticks_of c n)) is_code in
    record {
      clock = clock;
      signals = have.places;
      bound = record { clock_named = clock_named; clock_bit = bit; signals_named = have.are };
      over = subst (λ (t : List (List ℕ)). OverRows suite t r) same over;
    }
