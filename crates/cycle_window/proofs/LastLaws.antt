-- Last changes, change by change.
use Rattle.std.proofs.Common.{
  ◌≡◌,
  ◌≢◌,
  ℕ,
  zero,
  suc,
  ◌+◌,
  ◌-◌,
  ◌<◌,
  ◌≤◌,
  true,
  false,
  cond,
  eqb,
  List,
  [],
  ◌∷◌,
  ◌++◌,
  length,
  get_or,
  take,
  set,
  Option,
  Some,
  None,
  ◌⊎◌,
  refl,
  sym,
  ap,
  ◌∙◌,
  arith,
  inl,
  inr,
}
use Rattle.std.specs.Prelude.{replicate, is_some}
use Rattle.std.specs.List.{flat_map}
use Rattle.std.proofs.lemmas.Bool.{eq-eqb}
use Rattle.std.proofs.lemmas.Bool.Decides.{eqb_tells}
use Rattle.std.proofs.lemmas.List.{
  take_more,
  get_or-set_same,
  get_or-set_other,
  length-set,
  append-nil,
}
use Rattle.std.proofs.lemmas.Grind.{flat_map-append}
use Rattle.vcd_reader.specs.declared.step.Step.{Step}
use Rattle.vcd_reader.specs.declared.step.Change.{Change}
use Rattle.vcd_reader.specs.Values.{or_else}
use Rattle.cycle_window.specs.Changes.{changes_to, last_of, IsTable}

or_else-assoc : {A : Type 0} (a b c : Option A) → or_else a (or_else b c) ≡ or_else (or_else a b) c
or_else-assoc None b c = refl
or_else-assoc (Some n) b c = refl

or_else-none : {A : Type 0} (a : Option A) → or_else a None ≡ a
or_else-none None = refl
or_else-none (Some n) = refl

pub last_of-append : (code : ℕ) (xs ys : List Change)
    → last_of code (xs ++ ys) ≡ or_else (last_of code ys) (last_of code xs)
unfolding last_of
last_of-append code [] ys = sym (or_else-none (last_of code ys))
last_of-append code (x ∷ xs) ys =
    rw (last_of-append code xs ys) (sym (or_else-assoc (last_of code ys) (last_of code xs) _))

-- one more change
pub last_of-here : (code : ℕ) (xs : List Change) (c : Change) → c.code ≡ code
    → last_of code (xs ++ c ∷ []) ≡ Some c
unfolding last_of
last_of-here code xs c e =
    let t : eqb c.code code ≡ true = eq-eqb c.code code e in
    rw (last_of-append code xs (c ∷ []), t) refl

pub last_of-elsewhere : (code : ℕ) (xs : List Change) (c : Change) → c.code ≢ code
    → last_of code (xs ++ c ∷ []) ≡ last_of code xs
unfolding last_of
last_of-elsewhere code xs c ne =
    let e : eqb c.code code ≡ false =
    elim (eqb_tells c.code code) [ inl p ↦ absurd (ne p.1) | inr p ↦ p.0 ] in
    rw (last_of-append code xs (c ∷ []), e) refl

-- a table with one more change
pub table-set : (last : List (Option Change)) (xs : List Change) (c : Change) → c.code < length last
    → IsTable last xs → IsTable (set last c.code (Some c)) (xs ++ c ∷ [])
table-set last xs c lt table = λ code below.
    let long : length (set last c.code (Some c)) ≡ length last = length-set last c.code (Some c) in
    elim (eqb_tells c.code code) [
      | inl p ↦
          rw (← p.1) (get_or-set_same last c.code (Some c) None lt
          ∙ sym (last_of-here c.code xs c refl))
      | inr p ↦
          get_or-set_other last c.code code (Some c) None (λ e. p.1 (sym e))
          ∙ table code (omega arith) ∙ sym (last_of-elsewhere code xs c p.1)
    ]

pub table-skip : (last : List (Option Change)) (xs : List Change) (c : Change)
    → length last ≤ c.code → IsTable last xs → IsTable last (xs ++ c ∷ [])
table-skip last xs c le table = λ code below.
    table code below ∙ sym (last_of-elsewhere code xs c (λ e. absurd (omega arith)))

-- one more step
pub changes_to-more : (steps : List Step) (k : ℕ) (s : Step) → k < length steps
    → s ≡ get_or steps k s → changes_to steps (k + 1) ≡ changes_to steps k ++ s.changes.items
unfolding changes_to
changes_to-more steps k s lt at =
    ap (flat_map (λ (x : Step). x.changes.items)) (take_more steps k s lt)
    ∙ flat_map-append (λ (x : Step). x.changes.items) (take k steps) (get_or steps k s ∷ [])
    ∙ rw (← at, append-nil) refl

-- the last change in a step, or else the one before it
pub last_of-step : (steps : List Step) (code at : ℕ) (s : Step) (o : Option Change) → 0 < at
    → at - 1 < length steps → s ≡ get_or steps (at - 1) s → o ≡ last_of code s.changes.items
    → last_of code (changes_to steps at)
    ≡ or_else o (last_of code (changes_to steps (at - 1)))
last_of-step steps code at s o more lt is last =
    let e : at ≡ at - 1 + 1 = omega arith in
    ap (λ (n : ℕ). last_of code (changes_to steps n)) e
    ∙ ap (last_of code) (changes_to-more steps (at - 1) s lt is)
    ∙ last_of-append code (changes_to steps (at - 1)) s.changes.items
    ∙ ap (λ (x : Option Change). or_else x (last_of code (changes_to steps (at - 1)))) (sym last)

pub or_else-some : {A : Type 0} (o p : Option A) → is_some o ≡ true → or_else o p ≡ o
or_else-some (Some x) p e = refl
or_else-some None p e = absurd cc

pub or_else-not : {A : Type 0} (o p : Option A) → is_some o ≡ false → or_else o p ≡ p
or_else-not (Some x) p e = absurd cc
or_else-not None p e = refl

-- a last change is of its code
pub last_of-code : (code : ℕ) (xs : List Change) (c : Change) → last_of code xs ≡ Some c
    → c.code ≡ code
unfolding last_of
last_of-code code [] c e = absurd cc
last_of-code code (x ∷ xs) c e =
    last-cons code x c (last_of code xs) (λ d h. last_of-code code xs d h) (eqb_tells x.code code) e
  where
    last-cons : (code : ℕ) (x c : Change) (o : Option Change)
        → ((d : Change) → o ≡ Some d → d.code ≡ code)
        → ((eqb x.code code ≡ true) × (x.code ≡ code))
        ⊎ ((eqb x.code code ≡ false) × (x.code ≢ code))
        → or_else o (cond (eqb x.code code) (Some x) None) ≡ Some c → c.code ≡ code
    last-cons code x c (Some d) rec t e = rec c e
    last-cons code x c None rec (inl p) e =
        let h : Some x ≡ Some c = rw p.0 at e in let same : x ≡ c = cc in
        ap (λ (y : Change). y.code) (sym same) ∙ p.1
    last-cons code x c None rec (inr p) e = let h : None ≡ Some c = rw p.0 at e in absurd cc

get_or-blank : (n code : ℕ)
    → get_or (replicate n (let o : Option Change = None in o)) code None ≡ None
get_or-blank zero code = refl
get_or-blank (suc n) zero = refl
get_or-blank (suc n) (suc code) = get_or-blank n code

-- the table without changes
pub table-blank : (n : ℕ) → IsTable (replicate n None) []
unfolding last_of
table-blank n = λ code lt. get_or-blank n code
