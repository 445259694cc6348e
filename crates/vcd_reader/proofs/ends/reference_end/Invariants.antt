use Rattle.std.proofs.Common.{◌≡◌, ℕ, ◌≤◌, ◌<◌, ◌-◌, List, length}
use Rattle.vcd_reader.specs.Variables.{Declared}
use Rattle.vcd_reader.specs.Header.{Head, var_reference, var_more}
use Rattle.vcd_reader.specs.Sections.{tokens_at}
use Rattle.vcd_reader.proofs.ends.reference_end.Given as goal

abbrev pub invariant-words : goal.invariant-words
invariant-words l = record {
  low : l.start < l.at;
  high : l.at ≤ length l.bytes;
  same : (text : List ℕ)
      × ((opener : List ℕ) (scopes : List (List ℕ)) (vars : List Declared) (h : Head)
      → var_reference scopes vars (record { text = opener; at = l.word }) h (tokens_at l.bytes l.start)
      ≡ var_more scopes vars (record { text = opener; at = l.word }) h text (tokens_at l.bytes l.at));
}

abbrev pub decreases-words : goal.decreases-words
decreases-words l = length l.bytes - l.at
