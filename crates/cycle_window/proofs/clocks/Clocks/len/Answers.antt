use Rattle.std.proofs.Common.{◌∙◌}
use Rattle.cycle_window.specs.Held.{ticks_in}
use Rattle.cycle_window.proofs.clocks.Clocks.len.Goals as goal

pub returns : goal.returns
unfolding ticks_in
returns c = c.len.ensures ∙ c.args.self.now.ticks.ok.0
