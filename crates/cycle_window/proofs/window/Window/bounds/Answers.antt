use Rattle.std.proofs.Common.{refl}
use Rattle.cycle_window.specs.Held.{first_in, end_in}
use Rattle.cycle_window.proofs.window.Window.bounds.Goals as goal

pub returns-clause-first : goal.returns-clause-first
unfolding first_in
returns-clause-first c = refl

pub returns-clause-end : goal.returns-clause-end
unfolding end_in
returns-clause-end c = refl
