-- Declarations, a section at a time.
use Rattle.std.proofs.Common.{◌≡◌, ℕ, ◌-◌, List, [], ◌∷◌, ◌++◌, map, take, length, refl, ap, ◌∙◌}
use Rattle.std.proofs.lemmas.List.{length-map, take-map}
use Rattle.vcd_reader.specs.Tokens.{tokens}
use Rattle.vcd_reader.specs.Header.{outer_scopes}
use Rattle.vcd_declarations.specs.Sections.{texts, sections}
use Rattle.vcd_declarations.specs.Declarations.{Fields, Ended, Opened, Closed, Declares, Silent, said}
use Rattle.vcd_declarations.specs.Declarations.{declarations_in}

-- no bytes, no section
pub no-sections : sections (texts []) ≡ []
unfolding sections texts tokens
no-sections = refl

-- the scopes that are left after the innermost one closed
pub outer-map : {X : Type 0} (f : X → List ℕ) (xs : List X) → outer_scopes (map f xs)
    ≡ map f (take (length xs - 1) xs)
outer-map f xs =
    ap (λ (n : ℕ). take (n - 1) (map f xs)) (length-map xs f) ∙ take-map f (length xs - 1) xs

module _ (scopes ts : List (List ℕ)) where
  pub none-left : sections ts ≡ [] → declarations_in scopes ts ≡ []
  unfolding declarations_in
  none-left e = rw e refl

  module _ (s us : List (List ℕ)) (e : sections ts ≡ s ∷ sections us) where
    pub at-ended : Ended ≡ said s → declarations_in scopes ts ≡ []
    unfolding declarations_in
    at-ended h = rw (e, ← h) refl

    pub at-opened : (name : List ℕ) → Opened name ≡ said s
        → declarations_in scopes ts ≡ declarations_in (scopes ++ name ∷ []) us
    unfolding declarations_in
    at-opened name h = rw (e, ← h) refl

    pub at-closed : Closed ≡ said s → declarations_in scopes ts ≡ declarations_in (outer_scopes scopes) us
    unfolding declarations_in
    at-closed h = rw (e, ← h) refl

    pub at-declared : (fields : Fields) → Declares fields ≡ said s → declarations_in scopes ts
        ≡ record { scopes = scopes; fields = fields } ∷ declarations_in scopes us
    unfolding declarations_in
    at-declared fields h = rw (e, ← h) refl

    pub at-silent : Silent ≡ said s → declarations_in scopes ts ≡ declarations_in scopes us
    unfolding declarations_in
    at-silent h = rw (e, ← h) refl
