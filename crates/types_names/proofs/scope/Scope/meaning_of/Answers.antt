use Rattle.std.proofs.Common.{Option, None, option_map, sym, ap, ◌∙◌}
use Rattle.types_names.specs.declared.own.Own.{Own}
use Rattle.types_names.specs.declared.declared.OwnName.{OwnName}
use Rattle.types_names.specs.Scopes.{meaning_by}
use Rattle.types_names.specs.Views.{own_in, widths_in}
use Rattle.types_names.proofs.scope.Scope.meaning_of.Goals as goal

pub returns-in-Some-clause-means : goal.returns-in-Some-clause-means
unfolding own_in
returns-in-Some-clause-means c =
    let there = ap (option_map (λ (d : OwnName). d.own)) c.in-Some.ensures.value in
    ap (λ (o : Option Own). meaning_by o (widths_in c.args.self.now.paths c.args.text.now)) there

pub returns-in-Some-width-clause-means : goal.returns-in-Some-width-clause-means
unfolding own_in
returns-in-Some-width-clause-means c =
    let none = ap (option_map (λ (d : OwnName). d.own)) c.in_default.ensures.value in
    ap (meaning_by None) c.in-Some-width.ensures
    ∙ ap (λ (o : Option Own). meaning_by o (widths_in c.args.self.now.paths c.args.text.now)) none

pub returns-in-None-clause-means : goal.returns-in-None-clause-means
unfolding own_in
returns-in-None-clause-means c =
    let none = ap (option_map (λ (d : OwnName). d.own)) c.in_default.ensures.value in
    ap (meaning_by None) c.in-None.ensures
    ∙ ap (λ (o : Option Own). meaning_by o (widths_in c.args.self.now.paths c.args.text.now)) none
