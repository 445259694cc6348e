use Rattle.std.proofs.Common.{arith}
use Rattle.assertions.specs.Written.{or}
use Rattle.types.proofs.EntryLaws.{ok_map}
use Rattle.types.proofs.entry.Entry.or.Goals as goal

pub returns : goal.returns
returns c =
    ok_map c.entry_with.result _ _
    (λ e p v w x y.
    p (or v w) (x.ordered, y.ordered) (c.or-facts.ensures v w x.facts y.facts)
    (λ some most. c.in_ok-sequence.ensures v w (x.same (omega (arith, most))) (y.same (omega (arith, most)))))
    c.entry_with.ensures
