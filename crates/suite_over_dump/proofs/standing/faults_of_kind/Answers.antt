use Rattle.std.proofs.Common.{◌≡◌, ◌∙◌, ◌∷◌, [], ℕ, Some, map, arith, sym, ap, subst}
use Rattle.std.specs.List.{Contains}
use Rattle.std.proofs.lemmas.List.{length-map, get_or-map}
use Rattle.std.proofs.lemmas.List.Elements.{All-push, All-same}
use Rattle.parser_grammar.specs.Views.{item_of}
use Rattle.types.specs.Faults.{byte_of}
use Rattle.types_names.specs.Faults.{file_faults, least}
use Rattle.types_names.specs.Views.{scope_of}
use Rattle.suite_over_dump.specs.declared.standing.Standing.{Standing}
use Rattle.suite_over_dump.specs.Standing.{StandsIn, faulty}
use Rattle.suite_over_dump.proofs.standing.faults_of_kind.Goals as goal

pub loop-place-preserved : goal.loop-place-preserved
loop-place-preserved c =
    let s = scope_of c.args.scope.now in
    let items = map item_of c.args.items.now in
    let x = c.index-items-place.result in
    let Stands = λ (one : Standing). StandsIn s items (byte_of one.fault) in
    let i = c.loop-place.place in
    let lt = c.loop-place-test.true in
    let inside : Contains items (item_of x) = (
      i,
      omega (arith, lt, length-map c.args.items.now item_of),
      get_or-map item_of c.args.items.now i x (item_of x) lt ∙ ap item_of (sym c.index-items-place.is),
    ) in
    let first : least (file_faults s c.args.sought (item_of x ∷ [])) ≡ Some c.in-Some.at =
    ap (λ xs. least (file_faults s c.args.sought (map item_of xs))) (sym c.from_ref.ensures.value)
    ∙ sym c.in_ok-at.ensures ∙ c.in-Some.is in
    All-same Stands _ _ c.in_ok-push.ensures.items
    (All-push Stands c.loop-place.all.items _ c.loop-place.invariant
    (subst (λ (at : ℕ). StandsIn s items at) (sym c.fault_at.ensures)
    (faulty c.args.sought (item_of x) inside first)))
