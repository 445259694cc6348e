use Rattle.std.proofs.Common.{◌≡◌, ℕ, ◌≤◌, ◌-◌, List, length}
use Rattle.vcd_reader.specs.Variables as variables
use Rattle.vcd_reader.specs.Header.{skipped_section}
use Rattle.vcd_reader.specs.Sections.{tokens_at}
use Rattle.vcd_reader.proofs.header.skipped_end.Given as goal

abbrev pub invariant-words : goal.invariant-words
invariant-words l = record {
  low : l.start ≤ l.at;
  high : l.at ≤ length l.bytes;
  same : (opener : List ℕ) (scopes : List (List ℕ)) (vars : List variables.Declared)
      → skipped_section scopes vars (record { text = opener; at = l.word }) (tokens_at l.bytes l.start)
      ≡ skipped_section scopes vars (record { text = opener; at = l.word }) (tokens_at l.bytes l.at);
}

abbrev pub decreases-words : goal.decreases-words
decreases-words l = length l.bytes - l.at
