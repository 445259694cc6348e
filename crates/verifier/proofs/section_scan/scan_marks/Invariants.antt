use Rattle.std.proofs.Common.{◌≡◌, ◌+◌, length}
use Rattle.verifier.specs.Rules.{block_rules, section_of_side}
use Rattle.verifier.specs.Marks.{MarksReached}
use Rattle.verifier.specs.Scans.{HasRead}
use Rattle.verifier.proofs.section_scan.scan_marks.Given as goal

abbrev pub invariant-block : goal.invariant-block
invariant-block l =
    record {
      read : HasRead (block_rules (section_of_side l.side) l.atoms l.positions l.p) l.base l.block
          (MarksReached l.base l.marks) 0 (l.base + length l.block) (l.base + l.k) l.k;
      long : length l.marks ≡ length l.block;
    }
