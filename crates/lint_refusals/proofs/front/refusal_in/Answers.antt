use Rattle.lint_refusals.specs.Refused.{unlexed}
use Rattle.lint_refusals.proofs.front.refusal_in.Goals as goal

pub returns-in_ok-lex_refusal-in-Err : goal.returns-in_ok-lex_refusal-in-Err
returns-in_ok-lex_refusal-in-Err c = unlexed c.in-Err.fault c.in-Err.ensures.faulty c.in_ok-lex_refusal-in-Err.ensures
