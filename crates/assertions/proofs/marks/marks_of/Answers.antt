use Rattle.std.proofs.Common.{rules, sym, ◌∙◌, ap}
use Rattle.std.proofs.lemmas.List.{drop_all}
use Rattle.assertions.specs.Marks.{mark_all}
use Rattle.assertions.proofs.MarkLaws.{all-marks}
use Rattle.assertions.proofs.marks.marks_of.Goals as goal

pub returns : goal.returns
returns c =
    all-marks c.args.origin c.args.names.now c.args.count c.in_ok-marks.marks.items c.loop-name.marks.items
    c.in_ok-marks.ensures.long c.in_ok-marks.ensures.none
    (ap (λ ns. mark_all c.args.origin c.loop-name.marks.items ns)
    (sym (drop_all c.loop-name.name-index c.args.names.now (search rules))) ∙ c.loop-name.invariant)
