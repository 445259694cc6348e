use Rattle.std.proofs.Common.{arith}
use Rattle.cycle_window.specs.Held.{columns_in, places_in}
use Rattle.cycle_window.specs.Variables.{places}
use Rattle.cycle_window.proofs.PickLaws.{picked-long}
use Rattle.cycle_window.proofs.window.Window.width.Goals as goal

pub returns : goal.returns
unfolding columns_in places_in
returns c =
    let shared = c.args.self.now.columns.shared in
    let long = picked-long (places shared.variables.items) shared.picks.items in
    omega (arith, long, c.len.ensures, shared.picks.ok.0)
