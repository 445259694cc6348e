use Rattle.std.proofs.Common.{length, take}
use Rattle.cycle_window.specs.Picks.{ArePicks}
use Rattle.cycle_window.specs.Variables.{AreOf, AreCodesBelow, places}
use Rattle.cycle_window.proofs.shared.shared_among.Given as goal

abbrev pub invariant-loop-variable : goal.invariant-loop-variable
invariant-loop-variable l = record {
  bindable : AreOf l.dump l.variables.items;
  wide : AreCodesBelow l.dump l.wanted (length l.likely.items);
  picks : ArePicks (places l.variables.items) l.picks.items
      (places (take l.variable-index l.wanted));
}
