use Rattle.history_ring.proofs.TurnedLaws.{history_of-zeros}
use Rattle.history_ring.proofs.ring.Ring.new.Goals as goal

pub returns : goal.returns
returns c = rw c.in_ok-store.ensures (history_of-zeros c.args.depth c.args.slots)
