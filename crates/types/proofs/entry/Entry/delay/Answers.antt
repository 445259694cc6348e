use Rattle.std.proofs.Common.{◌+◌, arith}
use Rattle.assertions.specs.Written.{delay}
use Rattle.types.proofs.EntryLaws.{ok_map}
use Rattle.types.proofs.entry.Entry.delay.Goals as goal

pub returns : goal.returns
returns c =
    ok_map c.entry_with.result _ _
    (λ e p v w x y.
    p (delay v c.args.least (c.args.least + c.args.extra) w) (omega arith, x.ordered, y.ordered)
    (c.delay-facts.ensures v w x.facts y.facts)
    (λ some most. c.in_ok-sequence.ensures v w (omega (arith, most)) (x.same (omega (arith, most)))
    (y.same (omega (arith, most)))))
    c.entry_with.ensures
