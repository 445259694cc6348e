use Rattle.std.proofs.Common.{◌≡◌, ℕ, ◌≤◌, ◌-◌, List, length}
use Rattle.vcd_reader.specs.Body.{section}
use Rattle.vcd_reader.specs.Sections.{tokens_at}
use Rattle.vcd_reader.proofs.body.section_end.Given as goal

abbrev pub invariant-sections : goal.invariant-sections
invariant-sections l = record {
  low : l.start ≤ l.at;
  high : l.at ≤ length l.bytes;
  same : (declared : List (List ℕ)) (len count now : ℕ)
      → section declared len count now l.word (tokens_at l.bytes l.start)
      ≡ section declared len count now l.word (tokens_at l.bytes l.at);
}

abbrev pub decreases-sections : goal.decreases-sections
decreases-sections l = length l.bytes - l.at
