use Rattle.import_tokens.specs.Gaps.{is_name_part, IsRun}
use Rattle.import_tokens.proofs.runs.name_end.Given as goal

abbrev pub invariant-loop-at : goal.invariant-loop-at
invariant-loop-at l = IsRun is_name_part l.text l.start l.at
