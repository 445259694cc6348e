use Rattle.std.proofs.Common.{[], ℕ, List, length, subst}
use Rattle.std.proofs.lemmas.List.{append-nil}
use Rattle.assertions.specs.declared.sequence.Boolean.TheVariants.{Listed}
use Rattle.types.specs.Placed.{IsPlacedBoolean}
use Rattle.types.proofs.MadeLaws.{listed_too, at_own}
use Rattle.types.proofs.typed_assertions.disabling_of.Goals as goal

pub returns-in_ok-place_boolean-in-Some-clause-placed : goal.returns-in_ok-place_boolean-in-Some-clause-placed
returns-in_ok-place_boolean-in-Some-clause-placed c = λ booleans.
    let places = c.place_boolean.new.places.items in
    let made = c.in_ok-place_boolean-in-Some.field-0 in
    let call = c.in_ok-place_boolean-in-Some.ensures in
    let is = append-nil places in
    rw c.in-Some.is (
      subst (λ (ps : List ℕ). IsPlacedBoolean booleans ps (Listed c.in-Some.place) made) is
          (call.placed booleans []),
      listed_too places c.in-Some.place (length places) made
          (subst (λ (ps : List ℕ). IsPlacedBoolean [] ps (Listed c.in-Some.place) made) is
          (call.placed [] [])) call.listed,
    )

pub returns-in_ok-place_boolean-in-Some-clause-list : goal.returns-in_ok-place_boolean-in-Some-clause-list
returns-in_ok-place_boolean-in-Some-clause-list c = rw c.in-Some.is c.in_ok-place_boolean-in-Some.ensures.list

pub returns-in_ok-place_boolean-in-Some-clause-used : goal.returns-in_ok-place_boolean-in-Some-clause-used
returns-in_ok-place_boolean-in-Some-clause-used c =
    rw c.in-Some.is
    (at_own c.in-Some.place c.args.places.now.items c.place_boolean.new.places.items
    c.in_ok-place_boolean-in-Some.ensures.own)
