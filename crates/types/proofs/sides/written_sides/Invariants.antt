use Rattle.std.proofs.Common.{◌≡◌, ◌++◌, drop}
use Rattle.types.specs.Sides.{sides_in, consequents_in, AreKnownEntries}
use Rattle.types.proofs.sides.written_sides.Given as goal

abbrev pub invariant-loop-assertion : goal.invariant-loop-assertion
invariant-loop-assertion l = record {
  known : AreKnownEntries (drop l.assertion-index l.assertions);
  all : l.all.items ++ sides_in (drop l.assertion-index l.assertions) ≡ sides_in l.assertions;
  consequents :
      l.consequents.items ++ consequents_in (drop l.assertion-index l.assertions) ≡ consequents_in l.assertions;
}
