use Rattle.std.proofs.Common.{ap, subst}
use Rattle.import_properties.specs.Shapes.{written_form}
use Rattle.import_rewriting.specs.Rewriting.{EndsLater}
use Rattle.import_rewriting.proofs.SideLaws.{sides_never, antecedent_from}
use Rattle.import_rewriting.proofs.rewriting.sides_never.Goals as goal

pub returns : goal.returns
returns c =
    let r = written_form c.args.antecedent.value in
    let x = written_form c.in_ok-joined.joined.value in
    sides_never c.args.bound r x c.args.property.now (written_form c.in_ok-broken.broken.value)
    (written_form c.in_ok-never.never.value) c.in_ok-broken.ensures
    (subst (λ a. EndsLater r 0 0 (written_form a) x) c.deref.ensures c.in_ok-joined.ensures.later)
    c.in_ok-joined.ensures.fit (ap written_form c.in_ok-never.ensures)

pub ends_later-requires-clause-second_fits : goal.ends_later-requires-clause-second_fits
ends_later-requires-clause-second_fits c =
    antecedent_from c.args.bound c.args.property.now (written_form c.in_ok-broken.broken.value)
    (written_form c.deref.result.now) c.in_ok-broken.ensures (ap written_form c.deref.ensures)
