use Rattle.std.proofs.Common.{List, ℕ, drop}
use Rattle.types.specs.Entries.{Bodies}
use Rattle.types.specs.Readings.{Where}
use Rattle.types.specs.Made.{Expressions, Statements, AreFitting}
use Rattle.types.specs.Resolved.{AreResolved}
use Rattle.types.proofs.MadeLaws.{Half}
use Rattle.types.proofs.typed_assertions.assertions_of.Given as goal

abbrev pub invariant-loop-one : goal.invariant-loop-one
invariant-loop-one l = record {
  fit : AreFitting (drop l.one-index l.resolved);
  made : (s : Where) (columns : List (List ℕ)) (booleans : Expressions) (bodies : Bodies) (all : Statements)
      → AreResolved s columns booleans bodies 0 all l.resolved →
      Half s columns booleans bodies all (drop l.one-index l.resolved) l.assertions.items;
}
