use Rattle.std.proofs.Common.{◌≡◌, ◌+◌, ◌≤◌, drop}
use Rattle.verifier.specs.Sections.{instructions_in}
use Rattle.verifier.specs.Views.{blocks_of}
use Rattle.verifier.proofs.section_scan.capped_size.Given as goal

abbrev pub invariant-each : goal.invariant-each
invariant-each l =
    record {
      left : l.size + instructions_in (drop l.p (blocks_of l.blocks)) ≡ instructions_in (blocks_of l.blocks);
      few : l.size ≤ 4096;
    }
