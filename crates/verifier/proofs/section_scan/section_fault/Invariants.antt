use Rattle.std.proofs.Common.{◌+◌, ◌≤◌, drop}
use Rattle.verifier.specs.Rules.{section_of_side}
use Rattle.verifier.specs.Sections.{instructions_in}
use Rattle.verifier.specs.Marks.{found_in}
use Rattle.bytecode_programs.specs.Views.{section_data}
use Rattle.verifier.specs.Views.{blocks_of}
use Rattle.verifier.proofs.SectionLaws.{HasSeen}
use Rattle.verifier.proofs.section_scan.section_fault.Given as goal

abbrev pub invariant-each : goal.invariant-each
invariant-each l =
    record {
      seen : HasSeen (section_of_side l.side) l.atoms (section_data l.section)
          (found_in (section_of_side l.side) l.first) l.p l.base;
      size : l.base + instructions_in (drop l.p (blocks_of l.section.blocks.items)) ≤ 4096;
    }
