use Rattle.std.proofs.Common.{rules, arith}
use Rattle.import_tokens.specs.Gaps.{white, line_goes_on, line_comment}
use Rattle.import_tokens.proofs.cut.gap_at.Goals as goal

pub returns-then-is_white : goal.returns-then-is_white
returns-then-is_white c = (
  omega (arith, c.white_end.ensures.inside),
  c.white_end.ensures.inside.1,
  white (search rules) c.white_end.ensures.run,
)

pub returns-in-Some : goal.returns-in-Some
returns-in-Some c = (
  omega (arith, c.in-Some.ensures.inside),
  c.in-Some.ensures.inside.1,
  line_goes_on c.in-Some.ensures.backslash c.in-Some.ensures.ends,
)

pub returns-then-is_pair : goal.returns-then-is_pair
returns-then-is_pair c = (
  omega (arith, c.line_end.ensures.inside),
  c.line_end.ensures.inside.1,
  line_comment (c.if-is_pair.ensures.1) c.line_end.ensures.stays,
)
