use Rattle.std.proofs.Common.{◌≡◌, Some, ap}
use Rattle.std.specs.Prelude.{option_map}
use Rattle.parser_grammar.specs.Views.{tree_of, pair_of}
use Rattle.types_names.specs.Views.{scope_of, columns_in}
use Rattle.types.proofs.CounterLaws.{ready-clause}
use Rattle.types.proofs.counters.rule_of.Goals as goal

pub typed_expression-requires-clause-sound : goal.typed_expression-requires-clause-sound
typed_expression-requires-clause-sound c =
    let first = tree_of c.in-Some.operands.0.value in
    let second = tree_of c.in-Some.operands.1.value in
    let is : option_map pair_of c.args.clause.now ≡ Some (first, second) = ap (option_map pair_of) c.in-Some.is in
    let r =
    ready-clause (scope_of c.args.scope.now) (columns_in c.args.columns.now) _ first second is
    (record { sound = c.requires.sound; listed = c.requires.listed }) in
    rw c.deref.ensures r.0.sound

pub typed_expression-requires-clause-listed : goal.typed_expression-requires-clause-listed
typed_expression-requires-clause-listed c =
    let first = tree_of c.in-Some.operands.0.value in
    let second = tree_of c.in-Some.operands.1.value in
    let is : option_map pair_of c.args.clause.now ≡ Some (first, second) = ap (option_map pair_of) c.in-Some.is in
    let r =
    ready-clause (scope_of c.args.scope.now) (columns_in c.args.columns.now) _ first second is
    (record { sound = c.requires.sound; listed = c.requires.listed }) in
    rw c.deref.ensures r.0.listed

pub typed_expression-requires-in-Some-clause-sound : goal.typed_expression-requires-in-Some-clause-sound
typed_expression-requires-in-Some-clause-sound c =
    let first = tree_of c.in-Some.operands.0.value in
    let second = tree_of c.in-Some.operands.1.value in
    let is : option_map pair_of c.args.clause.now ≡ Some (first, second) = ap (option_map pair_of) c.in-Some.is in
    let r =
    ready-clause (scope_of c.args.scope.now) (columns_in c.args.columns.now) _ first second is
    (record { sound = c.requires.sound; listed = c.requires.listed }) in
    rw c.deref-in-Some.ensures r.1.sound

pub typed_expression-requires-in-Some-clause-listed : goal.typed_expression-requires-in-Some-clause-listed
typed_expression-requires-in-Some-clause-listed c =
    let first = tree_of c.in-Some.operands.0.value in
    let second = tree_of c.in-Some.operands.1.value in
    let is : option_map pair_of c.args.clause.now ≡ Some (first, second) = ap (option_map pair_of) c.in-Some.is in
    let r =
    ready-clause (scope_of c.args.scope.now) (columns_in c.args.columns.now) _ first second is
    (record { sound = c.requires.sound; listed = c.requires.listed }) in
    rw c.deref-in-Some.ensures r.1.listed
