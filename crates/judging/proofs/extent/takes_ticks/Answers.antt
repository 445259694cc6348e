use Rattle.std.proofs.Common.{◌∙◌, ◌+◌, ap, subst, arith, List, Bool}
use Rattle.assertions.specs.Segments.{is_match}
use Rattle.assertions.specs.Shapes.{written_form, shape}
use Rattle.judging.specs.Tables.{held_at, IsRelation}
use Rattle.judging.proofs.ExtentLaws.{takes_law}
use Rattle.judging.proofs.extent.takes_ticks.Goals as goal

pub returns : goal.returns
returns c =
    let values : List (List Bool) = c.new.result in
    let rel =
    subst (λ (l : List Bool). IsRelation (is_match (held_at values) (shape c.args.sequence.now)) l
    c.in_ok-ends.ends) c.as_slice.ensures.value c.in_ok-ends.ensures in
    c.some_mark.ensures
    ∙ takes_law (written_form c.args.sequence.now) c.requires.ordered values c.new.ensures
    (c.most_ticks-count.result + 1) (omega (arith, c.most_ticks-count.ensures.covers)) c.in_ok-start.start.items
    c.row.result.now c.in_ok-ends.ends c.in_ok-start.ensures rel c.row.ensures
