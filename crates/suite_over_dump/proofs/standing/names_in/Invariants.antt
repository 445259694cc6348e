use Rattle.std.proofs.Common.{map}
use Rattle.std.specs.List.{All}
use Rattle.parser_grammar.specs.Views.{item_of}
use Rattle.suite_over_dump.specs.Standing.{IsWritten}
use Rattle.suite_over_dump.proofs.standing.names_in.Given as goal

-- those so far
abbrev pub invariant-loop-place : goal.invariant-loop-place
invariant-loop-place l = All (λ n. IsWritten (map item_of l.items) n.name) l.all.items
