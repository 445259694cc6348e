use Rattle.std.proofs.Common.{◌≡◌, ◌∙◌, ◌+◌, get_or, sym, arith}
use Rattle.std.proofs.lemmas.Bool.{eqb-true}
use Rattle.cycle_window.specs.Values.{numbers}
use Rattle.cycle_window.proofs.StayLaws.{stays-more}
use Rattle.cycle_window.proofs.stays.stay_at.Goals as goal

pub overflow_add-result : goal.overflow_add-result
overflow_add-result c =
    let noted = c.requires.noted (c.args.place + 1) (omega arith) (omega arith) in
    omega (arith, c.requires.few, noted.inside)

pub returns : goal.returns
returns c =
    let place = c.args.place in
    let values = numbers c.args.values.now in
    let same : get_or values (place + 1) 0 ≡ get_or values place 0 =
    sym (eqb-true _ _ (sym c.stays_at.ensures ∙ c.if-not-stays_at.false)) in
    stays-more values place (get_or c.args.stays.now (place + 1) 0) same
    (c.requires.noted (place + 1) (omega arith) (omega arith))
