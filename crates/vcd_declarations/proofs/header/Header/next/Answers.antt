use Rattle.std.proofs.Common.{◌≡◌, ◌∙◌, ◌++◌, ◌∷◌, [], ◌-◌, ℕ, List, Bor, map, length, take, sym, ap, arith}
use Rattle.std.proofs.lemmas.List.{map-append}
use Rattle.std.specs.Vec.{vec_len}
use Rattle.vcd_declarations.specs.Sections.{texts}
use Rattle.vcd_declarations.specs.Declarations.{declarations_in}
use Rattle.vcd_declarations.specs.Views.{left_in, scopes_in, fields_of}
use Rattle.vcd_declarations.proofs.DeclarationLaws.{no-sections, outer-map, none-left, at-ended, at-opened, at-closed}
use Rattle.vcd_declarations.proofs.DeclarationLaws.{at-declared, at-silent}
use Rattle.vcd_declarations.proofs.header.Header.next.Goals as goal

pub returns-in_default : goal.returns-in_default
unfolding left_in
returns-in_default c =
    let none = none-left (scopes_in c.sections.self) (texts c.sections.self.rest.now) c.in_default.ensures.section in
    (c.sections.invariant ∙ none, none)

pub returns-in-Ended : goal.returns-in-Ended
unfolding left_in
returns-in-Ended c = (
  c.sections.invariant
      ∙ at-ended (scopes_in c.sections.self) (texts c.sections.self.rest.now) (texts c.in-Some.section.now)
      (texts c.in-Some.rest.now) c.in-Some.ensures.section c.in-Ended.ensures,
  none-left (scopes_in c.sections.self) (texts []) no-sections,
)

pub sections-preserved-in-Opened : goal.sections-preserved-in-Opened
unfolding left_in
sections-preserved-in-Opened c =
    let opened : scopes_in c.sections.self ++ c.in-Opened.name.now ∷ [] ≡ map (λ s. s.now) c.push.new.self.items =
    sym (ap (λ (ss : List (Bor (List ℕ))). map (λ s. s.now) ss) c.in_ok-push-in-Opened.ensures.items
    ∙ map-append (λ (s : Bor (List ℕ)). s.now) c.sections.self.scopes.items (c.in-Opened.name ∷ [])) in
    c.sections.invariant
    ∙ at-opened (scopes_in c.sections.self) (texts c.sections.self.rest.now) (texts c.in-Some.section.now)
    (texts c.in-Some.rest.now) c.in-Some.ensures.section c.in-Opened.name.now c.in-Opened.ensures
    ∙ ap (λ (ss : List (List ℕ)). declarations_in ss (texts c.in-Some.rest.now)) opened

pub sections-preserved-in-Closed : goal.sections-preserved-in-Closed
unfolding left_in
sections-preserved-in-Closed c =
    let items = c.sections.self.scopes.items in
    let long : length items ≡ vec_len c.sections.self.scopes = omega arith in
    c.sections.invariant
    ∙ at-closed (scopes_in c.sections.self) (texts c.sections.self.rest.now) (texts c.in-Some.section.now)
    (texts c.in-Some.rest.now) c.in-Some.ensures.section c.in-Closed.ensures
    ∙ ap (λ (ss : List (List ℕ)). declarations_in ss (texts c.in-Some.rest.now))
    (outer-map (λ (s : Bor (List ℕ)). s.now) items
    ∙ ap (λ (n : ℕ). map (λ s. s.now) (take (n - 1) items)) long
    ∙ ap (λ (ss : List (Bor (List ℕ))). map (λ s. s.now) ss) (sym c.pop-outer.ensures.rest))

pub returns-in-Declared : goal.returns-in-Declared
unfolding left_in
returns-in-Declared c =
    c.sections.invariant
    ∙ at-declared (scopes_in c.sections.self) (texts c.sections.self.rest.now) (texts c.in-Some.section.now)
    (texts c.in-Some.rest.now) c.in-Some.ensures.section (fields_of c.in-Declared.variable) c.in-Declared.ensures

pub sections-preserved : goal.sections-preserved
unfolding left_in
sections-preserved c =
    c.sections.invariant
    ∙ at-silent (scopes_in c.sections.self) (texts c.sections.self.rest.now) (texts c.in-Some.section.now)
    (texts c.in-Some.rest.now) c.in-Some.ensures.section c.in-Skipped.ensures
