use Rattle.std.proofs.Common.{◌≡◌, ◌-◌, ◌<◌, All, vec_len}
use Rattle.cycle_window.specs.Held.{end_in}
use Rattle.workers.specs.Runs.{IsMember}
use Rattle.workers.specs.Between.{IsBetween, IsNext, clocks_of}
use Rattle.workers.specs.Tallied.{AreTallied}
use Rattle.workers.proofs.rounds_run.run_rounds.Given as goal

abbrev pub invariant-rounds : goal.invariant-rounds
invariant-rounds g l =
    IsBetween l.job l.done l.monitors.items l.lines.items
    × (end_in l.done < clocks_of l.job → IsNext l.job l.done l.next)
    × ((vec_len l.members ≡ vec_len l.fn.members) × All IsMember l.members.items)
    × AreTallied l.members.items l.lines.items

abbrev pub decreases-rounds : goal.decreases-rounds
decreases-rounds g l = clocks_of l.job - end_in l.done
