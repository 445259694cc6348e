use Rattle.std.proofs.Common.{refl}
use Rattle.vcd_reader.specs.Stored.{stored_step}
use Rattle.vcd_reader.proofs.front.blank_steps.Goals as goal

pub returns : goal.returns
unfolding stored_step
returns c = λ high.
    rw (c.in_ok-push.ensures.items, c.new-steps.ensures.items, c.new.ensures.items) refl
