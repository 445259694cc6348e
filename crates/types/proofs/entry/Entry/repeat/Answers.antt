use Rattle.std.proofs.Common.{◌+◌, arith}
use Rattle.assertions.specs.Written.{repeat, weight}
use Rattle.types.proofs.EntryLaws.{ok_map, left_factor, right_factor}
use Rattle.types.proofs.entry.Entry.repeat.Goals as goal

pub returns : goal.returns
returns c =
    ok_map c.entry_with.result _ _
    (λ e p w y.
    p (repeat w c.args.least (c.args.least + c.args.extra)) (omega arith, y.ordered) (c.repeat-facts.ensures w y.facts)
    (λ some most. c.in_ok-sequence.ensures w (left_factor (c.args.least + c.args.extra) (weight w) 127 some most)
    (y.same (right_factor (c.args.least + c.args.extra) (weight w) 127 some most))))
    c.entry_with.ensures
