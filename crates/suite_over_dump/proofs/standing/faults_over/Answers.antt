use Rattle.std.proofs.Common.{◌∙◌, List, All, map, ap, subst}
use Rattle.std.specs.Prelude.{IfOk}
use Rattle.parser_grammar.specs.Trees.{ItemForm}
use Rattle.parser_grammar.specs.Views.{item_of, items_of}
use Rattle.types.specs.Faults.{byte_of}
use Rattle.types_names.specs.Scopes.{Scope}
use Rattle.types_names.specs.Asked.{scope_for}
use Rattle.types_names.specs.Views.{scope_of}
use Rattle.vcd_reader.specs.Held.{variables_of}
use Rattle.suite_over_dump.specs.declared.standing.Standing.{Standing}
use Rattle.suite_over_dump.specs.Dumps.{width_named}
use Rattle.suite_over_dump.specs.Standing.{StandsIn}
use Rattle.suite_over_dump.proofs.standing.faults_over.Goals as goal

pub returns : goal.returns
returns c =
    let vs = variables_of c.args.dump.now in
    let items = items_of c.args.file.now in
    let same = ap (λ xs. map item_of xs) c.as_slice.ensures.value in
    let asked = c.in_ok-scope.ensures ∙ ap (λ (xs : List ItemForm). scope_for xs (width_named vs)) same in
    subst (λ (s : Scope). IfOk c.faults_in.result (λ all. All (λ (one : Standing). StandsIn s items (byte_of one.fault))
    all.items)) asked
    (subst (λ (xs : List ItemForm). IfOk c.faults_in.result (λ all. All (λ (one : Standing).
    StandsIn (scope_of c.in_ok-scope.scope) xs (byte_of one.fault)) all.items))
    (ap (λ xs. map item_of xs) c.as_slice-2.ensures.value) c.faults_in.ensures)
