use Rattle.std.proofs.Common.{◌+◌, arith}
use Rattle.assertions.specs.Written.{lead}
use Rattle.types.proofs.EntryLaws.{ok_map}
use Rattle.types.proofs.entry.Entry.lead.Goals as goal

pub returns : goal.returns
returns c =
    ok_map c.entry_with.result _ _
    (λ e p w y.
    p (lead c.args.least (c.args.least + c.args.extra) w) (omega arith, y.ordered) (c.lead-facts.ensures w y.facts)
    (λ some most. c.in_ok-sequence.ensures w (omega (arith, most)) (y.same (omega (arith, most)))))
    c.entry_with.ensures
