use Rattle.std.proofs.Common.{List, ◌≤◌}
use Rattle.std.specs.List.{All}
use Rattle.parser_grammar.specs.Trees.{ItemForm}
use Rattle.types.specs.Faults.{byte_of}
use Rattle.types_names.specs.Scopes.{Scope}
use Rattle.suite_over_dump.specs.Standing.{IsWritten, StandsIn}
use Rattle.suite_over_dump.proofs.standing.repeated_among.Given as goal

-- those so far, and that the first of equal names isn't behind
abbrev pub invariant-loop-place : goal.invariant-loop-place
invariant-loop-place l = record {
  all : (s : Scope) (items : List ItemForm) → All (λ n. IsWritten items n.name) l.names
      → All (λ one. StandsIn s items (byte_of one.fault)) l.all.items;
  first : l.first ≤ l.place;
}
