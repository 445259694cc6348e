use Rattle.std.proofs.Common.{◌≡◌, ◌≤◌, ◌-◌, ◌++◌, length, drop}
use Rattle.vcd_declarations.specs.Sections.{texts}
use Rattle.vcd_declarations.specs.Declarations.{joined}
use Rattle.vcd_declarations.proofs.header.push_joined.Given as goal

abbrev pub invariant-words : goal.invariant-words
invariant-words l = record {
  high : l.at ≤ length l.reference;
  same : l.text.items ++ joined (texts (drop l.at l.reference))
      ≡ l.initial.text.items ++ joined (texts l.reference);
}

abbrev pub decreases-words : goal.decreases-words
decreases-words l = length l.reference - l.at
