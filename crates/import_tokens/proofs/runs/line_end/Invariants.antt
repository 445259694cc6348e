use Rattle.import_tokens.specs.Gaps.{StaysOnLine}
use Rattle.import_tokens.proofs.runs.line_end.Given as goal

abbrev pub invariant-loop-at : goal.invariant-loop-at
invariant-loop-at l = StaysOnLine l.text l.start l.at
