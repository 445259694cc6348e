use Rattle.import_tokens.specs.Gaps.{is_white, IsRun}
use Rattle.import_tokens.proofs.runs.white_end.Given as goal

abbrev pub invariant-loop-at : goal.invariant-loop-at
invariant-loop-at l = IsRun is_white l.text l.start l.at
