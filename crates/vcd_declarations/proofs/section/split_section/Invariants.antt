use Rattle.std.proofs.Common.{◌≡◌, ◌≤◌, ◌-◌, length, take, drop}
use Rattle.vcd_declarations.specs.Sections.{texts, sections}
use Rattle.vcd_declarations.proofs.TextLaws.{IsSplit}
use Rattle.vcd_declarations.proofs.SectionLaws.{with_texts}
use Rattle.vcd_declarations.proofs.section.split_section.Given as goal

abbrev pub invariant-words : goal.invariant-words
invariant-words l = record {
  high : l.at ≤ length l.bytes;
  split : IsSplit l.bytes l.at;
  same : sections (texts l.bytes)
      ≡ with_texts (texts (take l.at l.bytes)) (sections (texts (drop l.at l.bytes)));
}

abbrev pub decreases-words : goal.decreases-words
decreases-words l = length l.bytes - l.at
