use Rattle.assertions.specs.declared.sequence.Boolean.TheVariants.{Listed}
use Rattle.assertions.specs.Written.{throughout}
use Rattle.types.proofs.EntryLaws.{ok_map}
use Rattle.types.proofs.entry.Entry.throughout.Goals as goal

pub returns : goal.returns
returns c =
    ok_map c.entry_with.result _ _
    (λ e p w y.
    p (throughout (Listed c.args.place) w) y.ordered
    (record { weighs = y.facts.weighs; empty = y.facts.empty })
    (λ some most. c.in_ok-sequence.ensures w (y.same most)))
    c.entry_with.ensures
