use Rattle.std.proofs.Common.{◌≡◌, ◌+◌, ◌≤◌, drop}
use Rattle.verifier.specs.Sections.{instructions_in}
use Rattle.verifier.specs.Limits.{path_sum}
use Rattle.verifier.specs.Views.{blocks_of}
use Rattle.verifier.proofs.paths.path_sum.Given as goal

abbrev pub invariant-each : goal.invariant-each
invariant-each l =
    record {
      left : l.sum + path_sum l.base (drop l.p (blocks_of l.blocks)) ≡ path_sum 0 (blocks_of l.blocks);
      size : l.base + instructions_in (drop l.p (blocks_of l.blocks)) ≤ 4096;
      few : l.sum ≤ l.base;
    }
