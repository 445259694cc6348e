use Rattle.bytecode.proofs.FitLaws.{slot-few}
use Rattle.bytecode.proofs.list_writing.put_slots.Goals as goal

pub put_text-requires : goal.put_text-requires
put_text-requires c =
    rw (c.as_str.ensures.value, c.slot-item.is)
    (slot-few c.args.slots.now c.loop-slot.slot-index _ c.loop-slot-test.true c.requires.fit)
