use Rattle.std.proofs.Common.{◌≡◌, ◌++◌, drop, slice_get}
use Rattle.std.specs.List.{flat_map}
use Rattle.assertions.specs.Names.{expression_names}
use Rattle.assertions.proofs.read.names_at.Given as goal

abbrev pub invariant-loop-place : goal.invariant-loop-place
invariant-loop-place l =
    l.names.items ++ flat_map (λ place. expression_names (slice_get l.all place)) (drop l.place-index l.places)
    ≡ flat_map (λ place. expression_names (slice_get l.all place)) l.places
