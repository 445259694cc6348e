use Rattle.std.proofs.Common.{◌≡◌, ◌≤◌, ◌-◌, ℕ, [], List, length}
use Rattle.vcd_reader.specs.Variables.{Declared}
use Rattle.vcd_reader.specs.Header.{header}
use Rattle.vcd_reader.specs.Sections.{tokens_at}
use Rattle.vcd_reader.proofs.ends.header_end.Given as goal

abbrev pub invariant-sections : goal.invariant-sections
invariant-sections l = record {
  high : l.at ≤ length l.bytes;
  same : (scopes : List (List ℕ)) × (vars : List Declared)
      × (header [] [] (tokens_at l.bytes 0) ≡ header scopes vars (tokens_at l.bytes l.at));
}

abbrev pub decreases-sections : goal.decreases-sections
decreases-sections l = length l.bytes - l.at
