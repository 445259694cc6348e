use Rattle.std.proofs.Common.{rules}
use Rattle.import_tokens.specs.Gaps.{line_feed, with_return}
use Rattle.import_tokens.proofs.runs.after_line.Goals as goal

pub returns-then-text-at-eq10-clause-ends : goal.returns-then-text-at-eq10-clause-ends
returns-then-text-at-eq10-clause-ends c = line_feed (search rules)

pub returns-then-is_pair-clause-ends : goal.returns-then-is_pair-clause-ends
returns-then-is_pair-clause-ends c = with_return c.if-is_pair.ensures.1
