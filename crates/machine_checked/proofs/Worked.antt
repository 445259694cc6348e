-- The worked run, by computing.
use Rattle.std.proofs.Common.{refl}
use Rattle.machine_checked.specs.Clocks.{clock_after}
use Rattle.machine_checked.specs.Blocks.{run_set, visit}
use Rattle.machine_checked.specs.Worked.{TwoPositionsRun, FirstPositionsRun}

pub worked : TwoPositionsRun
unfolding clock_after visit run_set
worked = refl

pub worked-first : FirstPositionsRun
unfolding clock_after visit run_set
worked-first = refl
