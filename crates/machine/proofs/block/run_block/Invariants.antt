use Rattle.std.proofs.Common.{◌≡◌}
use Rattle.verifier.specs.Views.{blocks_of}
use Rattle.machine.specs.Records.{made_by}
use Rattle.machine.specs.Steps.{block_run}
use Rattle.machine.proofs.block.run_block.Given as goal

-- the whole run is the run from here
abbrev pub invariant-loop-next : goal.invariant-loop-next
invariant-loop-next l =
    block_run (blocks_of l.fn.blocks) l.fn.p l.fn.base l.fn.atoms l.fn.left l.fn.base (made_by l.fn.visit)
    ≡ block_run (blocks_of l.fn.blocks) l.fn.p l.fn.base l.fn.atoms l.left l.pc (made_by l.visit)

abbrev pub decreases-loop-next : goal.decreases-loop-next
decreases-loop-next l = l.left
