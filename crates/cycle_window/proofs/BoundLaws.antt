-- Signals, one by one.
use Rattle.std.proofs.Common.{
  ◌≡◌,
  ℕ,
  suc,
  ◌+◌,
  ◌<◌,
  List,
  [],
  ◌∷◌,
  ◌++◌,
  length,
  get_or,
  take,
  drop,
  map,
  Option,
  Some,
  None,
  refl,
  sym,
  ap,
  ◌∙◌,
  arith,
  add-one,
  inl,
  inr,
  subst,
}
use Rattle.std.proofs.Math.Seq.{drop-cons, get_or-append_seam}
use Rattle.std.proofs.lemmas.Bool.{cases_lt}
use Rattle.std.proofs.lemmas.List.{take_more, map-append, length-append, get_or_append_left}
use Rattle.vcd_reader.specs.declared.dump.Dump.{Dump}
use Rattle.vcd_reader.specs.declared.variable.VarId.{VarId}
use Rattle.vcd_reader.specs.Variables.{Declared, variable_named}
use Rattle.vcd_reader.specs.Held.{IsOf}
use Rattle.cycle_window.specs.declared.columns.WatchedSignal.{WatchedSignal}
use Rattle.cycle_window.specs.Bound.{Wanted, misfit, or_refused, first_refused, places_of}
use Rattle.cycle_window.specs.Signals.{wanted_of}

pub refused-more : (vs : List Declared) (ss : List WatchedSignal) (i : ℕ) (d : WatchedSignal)
    → i < length ss
    → misfit vs (variable_named vs (get_or ss i d).path.now) (get_or ss i d).width ≡ None
    → first_refused vs (map wanted_of (drop i ss))
    ≡ first_refused vs (map wanted_of (drop (i + 1) ss))
refused-more vs ss i d lt fits = rw (drop-cons ss i d lt, add-one) (rw fits refl)

pub refused-here : (vs : List Declared) (ss : List WatchedSignal) (i : ℕ) (d : WatchedSignal)
    → i < length ss
    → first_refused vs (map wanted_of (drop i ss))
    ≡ or_refused (misfit vs (variable_named vs (get_or ss i d).path.now) (get_or ss i d).width)
    (get_or ss i d).path.now (first_refused vs (map wanted_of (drop (suc i) ss)))
refused-here vs ss i d lt = rw (drop-cons ss i d lt) refl

places_of-append : (vs : List Declared) (xs ys : List Wanted)
    → places_of vs (xs ++ ys) ≡ places_of vs xs ++ places_of vs ys
places_of-append vs [] ys = refl
places_of-append vs (x ∷ xs) ys =
    ap (λ (ps : List (Option ℕ)). variable_named vs x.path ∷ ps) (places_of-append vs xs ys)

pub places-more :
    (vs : List Declared) (ss : List WatchedSignal) (i : ℕ) (d : WatchedSignal)
    (variables new : List VarId) (v : VarId) → i < length ss
    → map (λ (x : VarId). Some x.place) variables ≡ places_of vs (map wanted_of (take i ss))
    → new ≡ variables ++ v ∷ []
    → variable_named vs (get_or ss i d).path.now ≡ Some v.place
    → map (λ (x : VarId). Some x.place) new ≡ places_of vs (map wanted_of (take (i + 1) ss))
places-more vs ss i d variables new v lt before pushed named =
    ap (map (λ (x : VarId). Some x.place)) pushed
    ∙ map-append (λ (x : VarId). Some x.place) variables (v ∷ [])
    ∙ ap (λ (ps : List (Option ℕ)). ps ++ Some v.place ∷ []) before
    ∙ ap (λ (o : Option ℕ). places_of vs (map wanted_of (take i ss)) ++ o ∷ []) (sym named)
    ∙ sym (ap (λ (xs : List WatchedSignal). places_of vs (map wanted_of xs)) (take_more ss i d lt)
    ∙ ap (places_of vs) (map-append wanted_of (take i ss) (get_or ss i d ∷ []))
    ∙ places_of-append vs (map wanted_of (take i ss)) (wanted_of (get_or ss i d) ∷ []))

pub bindable-more : (d : Dump) (variables new : List VarId) (v : VarId)
    → ((i : ℕ) (x : VarId) → i < length variables → IsOf d (get_or variables i x))
    → new ≡ variables ++ v ∷ [] → IsOf d v → (i : ℕ) (x : VarId) → i < length new
    → IsOf d (get_or new i x)
bindable-more d variables new v before pushed of i x lt =
    let long : length (variables ++ v ∷ []) ≡ length variables + 1 =
    length-append variables (v ∷ []) in
    let len : length new ≡ length (variables ++ v ∷ []) =
    ap (λ (xs : List VarId). length xs) pushed in
    subst (λ (xs : List VarId). IsOf d (get_or xs i x)) (sym pushed)
    (elim (cases_lt i (length variables)) [
      | inl less ↦
          subst (λ (y : VarId). IsOf d y) (sym (get_or_append_left variables (v ∷ []) x i less))
          (before i x less)
      | inr more ↦
          let e : i ≡ length variables = omega arith in
          subst (λ (y : VarId). IsOf d y)
          (sym (ap (λ (n : ℕ). get_or (variables ++ v ∷ []) n x) e
          ∙ get_or-append_seam variables v [] x)) of
    ])

pub map-map : {A B C : Type 0} (f : A → B) (g : B → C) (xs : List A)
    → map g (map f xs) ≡ map (λ x. g (f x)) xs
map-map f g [] = refl
map-map f g (x ∷ xs) = ap (λ (ys : List _). g (f x) ∷ ys) (map-map f g xs)
