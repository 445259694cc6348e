use Rattle.std.proofs.Common.{sym, ◌∙◌}
use Rattle.types_names.specs.declared.declared.OwnName.{OwnName}
use Rattle.types_names.specs.Views.{own_in}
use Rattle.types_names.proofs.EntryLaws.{found-stays, found-grows}
use Rattle.types_names.proofs.scope.declare.Goals as goal

pub returns-then-contains_key : goal.returns-then-contains_key
unfolding own_in
returns-then-contains_key c =
    found-stays (λ (d : OwnName). d.own) c.args.names.now c.args.name.now c.args.declared.own
    (sym c.contains_key.ensures ∙ c.if-contains_key.true)

pub returns : goal.returns
unfolding own_in
returns c =
    found-grows (λ (d : OwnName). d.own) c.args.names.now c.args.name.now c.insert.new.self c.in_ok-key.key
    c.args.declared c.in_ok-key.ensures.ok (sym c.contains_key.ensures ∙ c.if-contains_key.false)
    c.in_ok-insert.ensures.updates
