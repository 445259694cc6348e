use Rattle.std.proofs.Common.{◌≡◌, ℕ, List, Option, sym, ap, ◌∙◌, map, subst, IfOk, IfErr}
use Rattle.parser_grammar.specs.Trees.{ItemForm}
use Rattle.parser_grammar.specs.Views.{item_of, items_of}
use Rattle.types_names.specs.Scopes.{Scope, sequence_named}
use Rattle.types_names.specs.Asked.{scope_for}
use Rattle.types_names.specs.Views.{scope_of}
use Rattle.types.specs.Faults.{IsFaultless, IsTypeFault}
use Rattle.types.specs.Suites.{IsSuite}
use Rattle.types.proofs.OutlineLaws.{named_below}
use Rattle.types.proofs.StageLaws.{refused_memory}
use Rattle.types.proofs.suite.check.Goals as goal

-- what holds of items in their scope, of the file's items in the file's scope
of_file : (P : Scope → List ItemForm → Type 0) (widths : List ℕ → Option ℕ) (s : Scope) (us vs : List ItemForm)
    → s ≡ scope_for us widths → us ≡ vs → P s us → P (scope_for vs widths) vs
of_file P widths s us vs is same h =
    subst (λ (z : Scope). P z vs) (is ∙ ap (λ (xs : List ItemForm). scope_for xs widths) same) (subst (P s) same h)

pub returns-in_err-scope-clause-refused : goal.returns-in_err-scope-clause-refused
returns-in_err-scope-clause-refused g c = refused_memory _ _ c.from_residual.result c.from_residual.ensures.1

pub suite_in-requires : goal.suite_in-requires
suite_in-requires g c = record {
  declared = λ t p h.
      named_below (map item_of c.as_slice-items.result.now) (g.W.PathWidths.widths c.args.paths.now) t p
      (ap (λ (x : Scope). sequence_named x t) (sym c.in_ok-scope.ensures) ∙ h);
}

pub returns-clause-faultless : goal.returns-clause-faultless
returns-clause-faultless g c =
    of_file (λ z us. IfOk c.suite_in.result (λ _. IsFaultless z us)) (g.W.PathWidths.widths c.args.paths.now)
    (scope_of c.in_ok-scope.scope) (map item_of c.as_slice-items.result.now) (items_of c.args.file.now)
    c.in_ok-scope.ensures (ap (map item_of) c.as_slice-items.ensures.value) c.suite_in.ensures.faultless

pub returns-clause-suite : goal.returns-clause-suite
returns-clause-suite g c =
    of_file (λ z us. IfOk c.suite_in.result (IsSuite z us)) (g.W.PathWidths.widths c.args.paths.now)
    (scope_of c.in_ok-scope.scope) (map item_of c.as_slice-items.result.now) (items_of c.args.file.now)
    c.in_ok-scope.ensures (ap (map item_of) c.as_slice-items.ensures.value) c.suite_in.ensures.suite

pub returns-clause-refused : goal.returns-clause-refused
returns-clause-refused g c =
    of_file (λ z us. IfErr c.suite_in.result (IsTypeFault z us)) (g.W.PathWidths.widths c.args.paths.now)
    (scope_of c.in_ok-scope.scope) (map item_of c.as_slice-items.result.now) (items_of c.args.file.now)
    c.in_ok-scope.ensures (ap (map item_of) c.as_slice-items.ensures.value) c.suite_in.ensures.refused
