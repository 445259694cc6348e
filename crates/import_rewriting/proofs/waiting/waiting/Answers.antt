use Rattle.std.proofs.Common.{ap, sym, ◌∙◌}
use Rattle.std.proofs.lemmas.Result.{IfOk-weaker}
use Rattle.import_properties.specs.Shapes.{written_form}
use Rattle.import_rewriting.specs.Sides.{can_match}
use Rattle.import_rewriting.proofs.ConsequentLaws.{says_waiting}
use Rattle.import_rewriting.proofs.waiting.waiting.Goals as goal

pub returns : goal.returns
returns c =
    IfOk-weaker c.made.result _ _ (λ b made ticks p q le sp sq.
    rw made.0
    (says_waiting ticks c.args.bound c.args.first p q (written_form c.in_ok-one.one.value)
    (written_form c.in_ok-held.held.value) (written_form c.args.second.value) (ap written_form c.in_ok-held.ensures)
    (ap written_form c.in_ok-one.ensures) made.1
    (sym (ap (λ a. can_match (written_form a)) c.deref.ensures) ∙ sym c.if-not-can_match.ensures) le sp sq))
    c.made.ensures.ok
