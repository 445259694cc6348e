use Rattle.std.proofs.Common.{◌≡◌, ◌≤◌, ◌-◌, ◌++◌, [], List, length, map}
use Rattle.vcd_reader.specs.declared.scope.Scope.{Scope}
use Rattle.vcd_reader.specs.Stored.{declaration_of}
use Rattle.vcd_reader.specs.Header.{header}
use Rattle.vcd_reader.specs.Scopes.{open_scopes, IsTree}
use Rattle.vcd_reader.specs.Sections.{tokens_at}
use Rattle.vcd_reader.proofs.header.read_header.Given as goal

abbrev pub invariant-sections : goal.invariant-sections
invariant-sections l = record {
  high : l.at ≤ length l.bytes;
  tree : IsTree l.scopes.items;
  inside : l.scope ≤ length l.scopes.items;
  same : (more : List Scope) → header [] [] (tokens_at l.bytes 0) ≡ header (open_scopes l.scopes.items l.scope)
      (map (declaration_of (l.scopes.items ++ more)) l.variables.items) (tokens_at l.bytes l.at);
}

abbrev pub decreases-sections : goal.decreases-sections
decreases-sections l = length l.bytes - l.at
