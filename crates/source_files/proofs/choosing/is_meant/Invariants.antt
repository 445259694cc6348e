use Rattle.std.proofs.Common.{◌≡◌, drop}
use Rattle.source_files.specs.Chosen.{is_meant}
use Rattle.source_files.proofs.choosing.is_meant.Given as goal

-- what the patterns so far leave to the others
abbrev pub invariant-loop-pattern : goal.invariant-loop-pattern
invariant-loop-pattern l =
    is_meant l.patterns l.name ≡ is_meant (drop l.pattern-index l.patterns) l.name
