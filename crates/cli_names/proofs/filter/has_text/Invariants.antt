use Rattle.std.proofs.Common.{◌≡◌, drop}
use Rattle.cli_names.specs.Filters.{has_text}
use Rattle.cli_names.proofs.filter.has_text.Given as goal

abbrev pub invariant-loop-start : goal.invariant-loop-start
invariant-loop-start l = has_text l.text l.path ≡ has_text l.text (drop l.start l.path)
