use Rattle.std.proofs.Common.{◌+◌, arith}
use Rattle.assertions.specs.Written.{and, weight}
use Rattle.types.proofs.EntryLaws.{ok_map, left_factor, right_factor}
use Rattle.types.proofs.entry.Entry.and.Goals as goal

pub returns : goal.returns
returns c =
    ok_map c.entry_with.result _ _
    (λ e p v w x y.
    p (and v w) (x.ordered, y.ordered) (c.and-facts.ensures v w x.facts y.facts)
    (λ some most. c.in_ok-sequence.ensures v w
    (x.same (omega (arith, left_factor (weight v + 1) (weight w + 1) 127 some most)))
    (y.same (omega (arith, right_factor (weight v + 1) (weight w + 1) 127 some most)))))
    c.entry_with.ensures
