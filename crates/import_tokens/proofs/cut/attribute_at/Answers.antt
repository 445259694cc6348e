use Rattle.std.proofs.Common.{arith}
use Rattle.import_tokens.specs.Gaps.{attribute}
use Rattle.import_tokens.proofs.cut.attribute_at.Goals as goal

pub returns-in-Some : goal.returns-in-Some
returns-in-Some c = (
  omega (arith, c.in-Some.ensures.inside),
  c.in-Some.ensures.inside.1,
  attribute c.requires.pair (omega (arith, c.in-Some.ensures.inside)) c.in-Some.ensures.pair,
)
