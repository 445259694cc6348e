use Rattle.std.proofs.Common.{ap, sym, ◌∙◌, subst}
use Rattle.std.proofs.lemmas.Result.{IfOk-weaker}
use Rattle.assertions.specs.Segments as kernel
use Rattle.assertions.specs.Written.{boolean}
use Rattle.import_properties.specs.Conditions.{negation}
use Rattle.import_properties.specs.Properties.{sequence, both}
use Rattle.import_properties.specs.Shapes.{written_form}
use Rattle.import_rewriting.proofs.ConsequentLaws.{says_until_negated, says_at}
use Rattle.import_rewriting.proofs.waiting.until_negated.Goals as goal

pub returns : goal.returns
returns c =
    let b = c.args.first in
    let d = c.args.second in
    let missed = written_form c.in_ok-missed.missed.value in
    let one = sequence (kernel.one (negation b)) in
    let two = sequence (kernel.one (negation d)) in
    let is_two = ap written_form c.in_ok-missed.ensures ∙ ap boolean c.negation-not_second.ensures in
    IfOk-weaker c.waiting.result _ _ (λ w h ticks p q le sp sq.
    says_until_negated ticks b d p q (written_form w.value) sp sq
    (h ticks two (both one two) le
    (says_at ticks (negation d) (boolean c.negation-not_second.result) (ap boolean c.negation-not_second.ensures))
    (c.in_ok-broken.ensures ticks one two
    (says_at ticks (negation b) (boolean c.negation-not_first.result) (ap boolean c.negation-not_first.ensures))
    (says_at ticks (negation d) missed is_two))))
    c.waiting.ensures
