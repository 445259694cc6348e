use Rattle.std.proofs.Common.{◌≡◌}
use Rattle.attempt_pool.proofs.FilledLaws.{Filling}
use Rattle.attempt_pool.proofs.nodes.Nodes.new.Given as goal

abbrev pub invariant-loop-place : goal.invariant-loop-place
invariant-loop-place g l = record {
  start : l.places.start ≡ l.initial.places.start;
  count : l.places.count ≡ l.initial.places.count;
  nodes : Filling l.places.held l.count l.place;
}
