use Rattle.std.proofs.Common.{sym, ◌∙◌}
use Rattle.types.specs.Sides.{places_where, is_wide}
use Rattle.types.proofs.StageLaws.{nowhere}
use Rattle.types.proofs.SideLaws.{all_light}
use Rattle.types.proofs.SideStage.{clear_7, first_7, clear_8, first_8, clear_9, first_9, clear_all}
use Rattle.types.proofs.stages.check_sides.Goals as goal

pub returns-in-Some-clause-err : goal.returns-in-Some-clause-err
returns-in-Some-clause-err c = λ s items clear sides consequents.
    first_7 s items c.args.sides.now sides c.in-Some.at clear (sym c.first_wide.ensures ∙ c.in-Some.is)

pub returns-in-Some-first_degenerate-clause-err : goal.returns-in-Some-first_degenerate-clause-err
returns-in-Some-first_degenerate-clause-err c = λ s items clear sides consequents.
    first_8 s items c.args.sides.now sides c.in-Some-first_degenerate.at
    (all_light c.args.sides.now
    (nowhere (places_where is_wide c.args.sides.now) (sym c.first_wide.ensures ∙ c.in_default.is)))
    (clear_7 s items c.args.sides.now sides clear (sym c.first_wide.ensures ∙ c.in_default.is))
    (sym c.first_degenerate.ensures ∙ c.in-Some-first_degenerate.is)

pub returns-in-Some-first_empty-clause-err : goal.returns-in-Some-first_empty-clause-err
returns-in-Some-first_empty-clause-err c = λ s items clear sides consequents.
    first_9 s items c.args.consequents.now consequents c.in-Some-first_empty.at
    (clear_8 s items c.args.sides.now sides
    (all_light c.args.sides.now
    (nowhere (places_where is_wide c.args.sides.now) (sym c.first_wide.ensures ∙ c.in_default.is)))
    (clear_7 s items c.args.sides.now sides clear (sym c.first_wide.ensures ∙ c.in_default.is))
    (sym c.first_degenerate.ensures ∙ c.in_default-first_degenerate.is))
    (sym c.first_empty.ensures ∙ c.in-Some-first_empty.is)

pub returns-clause-ok : goal.returns-clause-ok
returns-clause-ok c = λ s items clear sides consequents.
    clear_all s items
    (clear_9 s items c.args.consequents.now consequents
    (clear_8 s items c.args.sides.now sides
    (all_light c.args.sides.now
    (nowhere (places_where is_wide c.args.sides.now) (sym c.first_wide.ensures ∙ c.in_default.is)))
    (clear_7 s items c.args.sides.now sides clear (sym c.first_wide.ensures ∙ c.in_default.is))
    (sym c.first_degenerate.ensures ∙ c.in_default-first_degenerate.is))
    (sym c.first_empty.ensures ∙ c.in_default-first_empty.is))

pub returns-clause-light : goal.returns-clause-light
returns-clause-light c =
    all_light c.args.sides.now
    (nowhere (places_where is_wide c.args.sides.now) (sym c.first_wide.ensures ∙ c.in_default.is))
