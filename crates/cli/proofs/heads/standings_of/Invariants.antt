use Rattle.std.proofs.Common.{◌≡◌, length}
use Rattle.cli.proofs.heads.standings_of.Given as goal

-- a place for each explanation so far
abbrev pub invariant-loop-explanation : goal.invariant-loop-explanation
invariant-loop-explanation l = length l.standings.items ≡ l.explanation-index
