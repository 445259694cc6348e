use Rattle.vcd_reader.specs.Held.{steps_in}
use Rattle.vcd_reader.proofs.dump.Dump.steps.Goals as goal

pub returns : goal.returns
unfolding steps_in
returns c = c.deref.ensures.value
