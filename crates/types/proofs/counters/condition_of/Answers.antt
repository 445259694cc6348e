use Rattle.std.proofs.Common.{◌≡◌, Some, ap, ◌∙◌, sym}
use Rattle.std.specs.Prelude.{option_map}
use Rattle.parser_grammar.specs.Views.{tree_of, boxed_of}
use Rattle.types_names.specs.Views.{scope_of, columns_in}
use Rattle.types.proofs.CounterLaws.{ready-optional}
use Rattle.types.proofs.counters.condition_of.Goals as goal

pub typed_expression-requires-clause-sound : goal.typed_expression-requires-clause-sound
typed_expression-requires-clause-sound c =
    let is : option_map boxed_of c.args.expr.now ≡ Some (tree_of c.deref.result.now) =
    ap (option_map boxed_of) c.in-Some.is ∙ ap (λ x. Some (tree_of x)) (sym c.deref.ensures) in
    let r =
    ready-optional (scope_of c.args.scope.now) (columns_in c.args.columns.now) _ _ is
    (record { sound = c.requires.sound; listed = c.requires.listed }) in
    r.sound
