use Rattle.std.proofs.Common.{map}
use Rattle.std.specs.List.{All}
use Rattle.parser_grammar.specs.Views.{item_of}
use Rattle.types.specs.Faults.{byte_of}
use Rattle.types_names.specs.Views.{scope_of}
use Rattle.suite_over_dump.specs.Standing.{StandsIn}
use Rattle.suite_over_dump.proofs.standing.faults_of_kind.Given as goal

-- those so far
abbrev pub invariant-loop-place : goal.invariant-loop-place
invariant-loop-place l =
    All (λ s. StandsIn (scope_of l.scope) (map item_of l.items) (byte_of s.fault)) l.all.items
