use Rattle.std.proofs.Common.{arith}
use Rattle.import_tokens.specs.Gaps.{block_comment}
use Rattle.import_tokens.proofs.cut.comment_at.Goals as goal

pub returns-in-Some : goal.returns-in-Some
returns-in-Some c = (
  omega (arith, c.in-Some.ensures.inside),
  c.in-Some.ensures.inside.1,
  block_comment c.requires.pair (omega (arith, c.in-Some.ensures.inside)) c.in-Some.ensures.pair,
)
