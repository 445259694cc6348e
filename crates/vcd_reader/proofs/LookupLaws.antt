-- Looking up variables.
use Rattle.std.proofs.Common.{◌≡◌, ℕ, zero, suc, ◌+◌, ◌<◌, Bool, true, false, cond, List, [], ◌∷◌, length, get_or, map}
use Rattle.std.proofs.Common.{drop, Option, Some, None, refl, sym, ap, ◌∙◌, arith, add-one, inl, inr}
use Rattle.std.specs.Prelude.{nat_eq, unwrap_or}
use Rattle.std.proofs.Math.Seq.{drop-cons}
use Rattle.std.proofs.Math.ListN.{get_or-eq_default}
use Rattle.std.proofs.lemmas.List.{get_or-map, get_or_default, length-map}
use Rattle.std.proofs.lemmas.Bool.{cases_lt}
use Rattle.std.proofs.lemmas.Bool.Decides.{eqb_tells}
use Rattle.vcd_reader.specs.declared.scope.Scope.{Scope}
use Rattle.vcd_reader.specs.declared.variable.Variable.{Variable}
use Rattle.vcd_reader.specs.declared.places.Places.{Places}
use Rattle.vcd_reader.specs.declared.places.Part.TheVariants.{Path}
use Rattle.vcd_reader.specs.Index.{texts_in, codes_in, IsIndex}
use Rattle.vcd_reader.specs.Stored.{declaration_of}
use Rattle.vcd_reader.specs.Scopes.{open_scopes}
use Rattle.vcd_reader.specs.Variables.{Declared, Named, path_of, no_variable, variable_at_place, place_of, codes_of}
use Rattle.vcd_reader.specs.Variables.{paths_of, is_bindable, size_of, code_number, variable_named, if_bindable}
use Rattle.vcd_reader.specs.Variables.{is_place, names_from}

declared-at : (ss : List Scope) (vs : List Variable) (i : ℕ) (v : Variable) → i < length vs → v ≡ get_or vs i v
    → variable_at_place (map (declaration_of ss) vs) i ≡ declaration_of ss v
declared-at ss vs i v lt is = get_or-map (declaration_of ss) vs i v no_variable lt ∙ ap (declaration_of ss) (sym is)

pub bindable-at : (ss : List Scope) (vs : List Variable) (i : ℕ) (v : Variable) → i < length vs → v ≡ get_or vs i v
    → is_bindable (map (declaration_of ss) vs) i ≡ v.bindable
unfolding is_bindable
bindable-at ss vs i v lt is = ap (λ (d : Declared). d.bindable) (declared-at ss vs i v lt is)

pub size-at : (ss : List Scope) (vs : List Variable) (i : ℕ) (v : Variable) → i < length vs → v ≡ get_or vs i v
    → v.size ≡ size_of (map (declaration_of ss) vs) i
unfolding size_of
size-at ss vs i v lt is = sym (ap (λ (d : Declared). d.size) (declared-at ss vs i v lt is))

-- what can be bound is there
pub bindable-inside : (ss : List Scope) (vs : List Variable) (i : ℕ) → is_bindable (map (declaration_of ss) vs) i ≡ true
    → i < length vs
unfolding is_bindable
bindable-inside ss vs i b = elim (cases_lt i (length vs)) [
  | inl lt ↦ lt
  | inr ge ↦
      let long : length (map (declaration_of ss) vs) ≡ length vs = rw length-map refl in
      let none : get_or (map (declaration_of ss) vs) i no_variable ≡ no_variable =
      get_or-eq_default (map (declaration_of ss) vs) no_variable (omega arith) in
      absurd (let e = ap (λ (d : Declared). d.bindable) none in cc)
]

code-at : (ss : List Scope) (vs : List Variable) (i : ℕ) → (get_or (map (declaration_of ss) vs) i no_variable).code
    ≡ get_or (codes_in vs) i []
code-at ss [] i = refl
code-at ss (v ∷ vs) zero = refl
code-at ss (v ∷ vs) (suc i) = code-at ss vs i

path-at : (ss : List Scope) (vs : List Variable) (i : ℕ) → (get_or (map (declaration_of ss) vs) i no_variable).path
    ≡ get_or (texts_in Path ss vs) i []
path-at ss [] i = refl
path-at ss (v ∷ vs) zero = refl
path-at ss (v ∷ vs) (suc i) = path-at ss vs i

pub codes-texts : (ss : List Scope) (vs : List Variable) → codes_of (map (declaration_of ss) vs) ≡ codes_in vs
codes-texts ss [] = refl
codes-texts ss (v ∷ vs) = ap (λ (ts : List (List ℕ)). v.code.items ∷ ts) (codes-texts ss vs)

paths-texts : (ss : List Scope) (vs : List Variable) → paths_of (map (declaration_of ss) vs) ≡ texts_in Path ss vs
paths-texts ss [] = refl
paths-texts ss (v ∷ vs) =
    ap (λ (ts : List (List ℕ)). path_of (open_scopes ss v.scope) v.name.items ∷ ts) (paths-texts ss vs)

pub number-at : (ss : List Scope) (vs : List Variable) (p : Places) (i n : ℕ) → IsIndex (codes_in vs) p → i < length vs
    → n ≡ get_or p.firsts.items i n → n ≡ code_number (map (declaration_of ss) vs) i
unfolding code_number
number-at ss vs p i n index lt is =
    let long : length (codes_in vs) ≡ length vs = rw length-map refl in
    let at : n ≡ get_or p.firsts.items i 0 = is ∙ get_or_default p.firsts.items i n 0 (omega (arith, index.long)) in
    let place : Some n ≡ place_of (codes_of (map (declaration_of ss) vs))
    (variable_at_place (map (declaration_of ss) vs) i).code = ap (λ (m : ℕ). Some m) at
    ∙ index.first i (omega arith) ∙ rw (codes-texts ss vs, code-at ss vs i) refl in
    ap (λ (o : Option ℕ). unwrap_or o 0) place

-- what a path names
pub named-none : (ss : List Scope) (vs : List Variable) (path : List ℕ) → None ≡ place_of (texts_in Path ss vs) path
    → None ≡ variable_named (map (declaration_of ss) vs) path
unfolding variable_named
named-none ss vs path e =
    ap (if_bindable (map (declaration_of ss) vs))
    (e ∙ ap (λ (ts : List (List ℕ)). place_of ts path) (sym (paths-texts ss vs)))

named-some : (ss : List Scope) (vs : List Variable) (path : List ℕ) (n : ℕ)
    → Some n ≡ place_of (texts_in Path ss vs) path → cond (is_bindable (map (declaration_of ss) vs) n) (Some n) None
    ≡ variable_named (map (declaration_of ss) vs) path
unfolding variable_named
named-some ss vs path n e =
    ap (if_bindable (map (declaration_of ss) vs))
    (e ∙ ap (λ (ts : List (List ℕ)). place_of ts path) (sym (paths-texts ss vs)))

pub named-bound : (ss : List Scope) (vs : List Variable) (path : List ℕ) (n : ℕ)
    → Some n ≡ place_of (texts_in Path ss vs) path → is_bindable (map (declaration_of ss) vs) n ≡ true
    → Some n ≡ variable_named (map (declaration_of ss) vs) path
named-bound ss vs path n e b = (rw b refl) ∙ named-some ss vs path n e

pub named-unbound : (ss : List Scope) (vs : List Variable) (path : List ℕ) (n : ℕ)
    → Some n ≡ place_of (texts_in Path ss vs) path → is_bindable (map (declaration_of ss) vs) n ≡ false
    → None ≡ variable_named (map (declaration_of ss) vs) path
named-unbound ss vs path n e b = (rw b refl) ∙ named-some ss vs path n e

-- whether a variable is the one that its own path names
first-named : (ss : List Scope) (vs : List Variable) (p : Places) (i n : ℕ) → IsIndex (texts_in Path ss vs) p
    → i < length vs → n ≡ get_or p.firsts.items i n → cond (is_bindable (map (declaration_of ss) vs) n) (Some n) None
    ≡ variable_named (map (declaration_of ss) vs) (variable_at_place (map (declaration_of ss) vs) i).path
first-named ss vs p i n index lt is =
    let long : length (texts_in Path ss vs) ≡ length vs = rw length-map refl in
    let at : n ≡ get_or p.firsts.items i 0 = is ∙ get_or_default p.firsts.items i n 0 (omega (arith, index.long)) in
    named-some ss vs ((variable_at_place (map (declaration_of ss) vs) i).path) n
    (ap (λ (m : ℕ). Some m) at ∙ index.first i (omega arith) ∙ rw (path-at ss vs i) refl)

bound-itself : (b : Bool) (n i : ℕ) → (n ≡ i → b ≡ true) → nat_eq n i ≡ is_place i (cond b (Some n) None)
bound-itself true n i h = refl
bound-itself false n i h = elim (eqb_tells n i) [ inl p ↦ absurd (let e = h p.1 in cc) | inr p ↦ p.0 ]

unbound-itself : (b : Bool) (n i : ℕ) → (n ≡ i → b ≡ false) → false ≡ is_place i (cond b (Some n) None)
unbound-itself false n i h = refl
unbound-itself true n i h = elim (eqb_tells n i) [ inl p ↦ absurd (let e = h p.1 in cc) | inr p ↦ sym p.0 ]

pub itself-bound : (ss : List Scope) (vs : List Variable) (p : Places) (i n : ℕ) → IsIndex (texts_in Path ss vs) p
    → i < length vs → n ≡ get_or p.firsts.items i n → is_bindable (map (declaration_of ss) vs) i ≡ true
    → nat_eq n i
    ≡ is_place i (variable_named (map (declaration_of ss) vs) (variable_at_place (map (declaration_of ss) vs) i).path)
itself-bound ss vs p i n index lt is b =
    bound-itself (is_bindable (map (declaration_of ss) vs) n) n i
    (λ e. ap (is_bindable (map (declaration_of ss) vs)) e ∙ b) ∙ ap (is_place i) (first-named ss vs p i n index lt is)

pub itself-unbound : (ss : List Scope) (vs : List Variable) (p : Places) (i : ℕ) → IsIndex (texts_in Path ss vs) p
    → i < length vs → is_bindable (map (declaration_of ss) vs) i ≡ false
    → false
    ≡ is_place i (variable_named (map (declaration_of ss) vs) (variable_at_place (map (declaration_of ss) vs) i).path)
itself-unbound ss vs p i index lt b =
    let long : length (texts_in Path ss vs) ≡ length vs = rw length-map refl in
    let n = get_or p.firsts.items i 0 in
    let is : n ≡ get_or p.firsts.items i n = get_or_default p.firsts.items i 0 n (omega (arith, index.long)) in
    unbound-itself (is_bindable (map (declaration_of ss) vs) n) n i
    (λ e. ap (is_bindable (map (declaration_of ss) vs)) e ∙ b)
    ∙ ap (is_place i) (first-named ss vs p i n index lt is)

pub names-step : (all : List Declared) (i : ℕ) → i < length all
    → names_from all i (drop i all) ≡ cond (is_place i (variable_named all (variable_at_place all i).path))
    (record { path = (variable_at_place all i).path; width = (variable_at_place all i).size } ∷ names_from all
    (i + 1) (drop (i + 1) all)) (names_from all (i + 1) (drop (i + 1) all))
unfolding names_from
names-step all i lt = rw (drop-cons all i no_variable lt, add-one) refl

pub names-skip : (all : List Declared) (i : ℕ) → i < length all
    → false ≡ is_place i (variable_named all (variable_at_place all i).path)
    → names_from all (i + 1) (drop (i + 1) all) ≡ names_from all i (drop i all)
names-skip all i lt e = sym (names-step all i lt ∙ rw (← e) refl)

pub names-take : (ss : List Scope) (vs : List Variable) (i : ℕ) (v : Variable) (path : List ℕ) → i < length vs
    → v ≡ get_or vs i v → path ≡ path_of (open_scopes ss v.scope) v.name.items
    → true
    ≡ is_place i (variable_named (map (declaration_of ss) vs) (variable_at_place (map (declaration_of ss) vs) i).path)
    → record { path = path; width = v.size } ∷ names_from (map (declaration_of ss) vs) (i + 1)
    (drop (i + 1) (map (declaration_of ss) vs)) ≡ names_from (map (declaration_of ss) vs) i
    (drop i (map (declaration_of ss) vs))
names-take ss vs i v path lt is same e =
    let long : length (map (declaration_of ss) vs) ≡ length vs = rw length-map refl in
    let at = declared-at ss vs i v lt is in
    let rest = names_from (map (declaration_of ss) vs) (i + 1) (drop (i + 1) (map (declaration_of ss) vs)) in
    sym (names-step (map (declaration_of ss) vs) i (omega arith)
    ∙ rw (← e) (ap (λ (d : Declared). let n : Named = record { path = d.path; width = d.size } in n ∷ rest) at
    ∙ ap (λ (p : List ℕ). let n : Named = record { path = p; width = v.size } in n ∷ rest) (sym same)))
