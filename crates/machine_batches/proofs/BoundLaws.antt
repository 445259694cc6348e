-- The clock and the signals of a program in a dump.
use Rattle.std.proofs.Common.{
  ◌≡◌,
  inl,
  inr,
  ℕ,
  Bool,
  eqb,
  List,
  [],
  ◌∷◌,
  Option,
  Some,
  None,
  map,
  cond,
  refl,
  sym,
  ap,
  ◌∙◌,
}
use Rattle.std.proofs.lemmas.Bool.Decides.{eqb_tells}
use Rattle.bytecode_programs.specs.Values.{SlotData}
use Rattle.vcd_reader.specs.Variables.{Declared, variable_named, size_of}
use Rattle.cycle_window.specs.Bound.{
  Wanted,
  OtherWidth,
  Refused,
  misfit,
  or_refused,
  first_refused,
  places_of,
}
use Rattle.machine_batches.specs.Reported.{AreBound, wanted_slot}

-- the variables that the paths of signals name
named-places : (vs : List Declared) (ss : List SlotData)
    → places_of vs (map wanted_slot ss) ≡ map (λ (s : SlotData). variable_named vs s.path) ss
named-places vs [] = refl
named-places vs (s ∷ ss) =
    ap (λ (os : List (Option ℕ)). variable_named vs s.path ∷ os) (named-places vs ss)

record Fits (vs : List Declared) (width place : ℕ) (rest : Option Refused) : Type 0 where
  wide : size_of vs place ≡ width
  later : rest ≡ None

-- a signal that is not refused has a variable of its width
fits : (vs : List Declared) (o : Option ℕ) (width place : ℕ) (path : List ℕ) (rest : Option Refused)
    → o ≡ Some place → or_refused (misfit vs o width) path rest ≡ None → Fits vs width place rest
fits vs None width place path rest is none = absurd cc
fits vs (Some v) width place path rest is none =
    let here : v ≡ place = cc in
    elim (eqb_tells (size_of vs v) width) [
      | inl same ↦ record {
        wide = ap (size_of vs) (sym here) ∙ same.1;
        later = sym (ap (λ (b : Bool). or_refused (cond b None (Some OtherWidth)) path rest) same.0)
            ∙ none;
      }
      | inr other ↦
          let e : or_refused (cond (eqb (size_of vs v) width) None (Some OtherWidth)) path rest
          ≡ or_refused (Some OtherWidth) path rest =
          ap (λ (b : Bool). or_refused (cond b None (Some OtherWidth)) path rest) other.0 in
          absurd (cc (e, none))
    ]

wide : (vs : List Declared) (ss : List SlotData) (ps : List ℕ)
    → map (λ (v : ℕ). Some v) ps ≡ places_of vs (map wanted_slot ss)
    → first_refused vs (map wanted_slot ss) ≡ None
    → map (size_of vs) ps ≡ map (λ (s : SlotData). s.width) ss
wide vs [] [] are none = refl
wide vs [] (p ∷ ps) are none = absurd cc
wide vs (s ∷ ss) [] are none = absurd cc
wide vs (s ∷ ss) (p ∷ ps) are none =
    let here : variable_named vs s.path ≡ Some p = cc in
    let rest : map (λ (v : ℕ). Some v) ps ≡ places_of vs (map wanted_slot ss) = cc in
    let one =
    fits vs (variable_named vs s.path) s.width p s.path (first_refused vs (map wanted_slot ss))
    here none in
    ap (λ (n : ℕ). n ∷ map (size_of vs) ps) one.wide
    ∙ ap (λ (ns : List ℕ). s.width ∷ ns) (wide vs ss ps rest one.later)

-- columns that are bound to the signals
pub bound : (vs : List Declared) (ss : List SlotData) (asked : List Wanted) (ps : List ℕ)
    → asked ≡ map wanted_slot ss → map Some ps ≡ places_of vs asked → first_refused vs asked ≡ None
    → AreBound vs ss ps
bound vs ss asked ps is are none =
    let places : map (λ (v : ℕ). Some v) ps ≡ places_of vs (map wanted_slot ss) =
    are ∙ ap (places_of vs) is in
    record {
      named = sym (named-places vs ss) ∙ sym places;
      wide = wide vs ss ps places (sym (ap (first_refused vs) is) ∙ none);
    }
