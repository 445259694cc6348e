use Rattle.cycle_window.proofs.ShownLaws.{same-self, same-after}
use Rattle.tests_parts.proofs.dumps.push_rows.Goals as goal

pub loop-tick-init : goal.loop-tick-init
loop-tick-init c = same-self _

pub loop-tick-preserved : goal.loop-tick-preserved
loop-tick-preserved c = same-after _ _ _ c.loop-tick.invariant c.row.follows.holds-at-none
