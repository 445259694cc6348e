use Rattle.std.proofs.Common.{[], refl}
use Rattle.verifier.proofs.LimitFaultLaws.{short_1, short_2, short_3, short_4}
use Rattle.verifier.proofs.accept.limit_fault.Goals as goal

pub returns : goal.returns
returns c =
    let d = c.args.declared in
    let l = c.args.least in
    let step_1 = c.or_below-first.ensures [] refl in
    let step_2 = c.or_below-first-2.ensures (short_1 d l) step_1 in
    let step_3 = c.or_below-first-3.ensures (short_2 d l) step_2 in
    let step_4 = c.or_below-first-4.ensures (short_3 d l) step_3 in
    c.or_below.ensures (short_4 d l) step_4
