use Rattle.std.proofs.Common.{◌∙◌}
use Rattle.lint_refusals.proofs.front.compiled.Goals as goal

pub returns-in_default : goal.returns-in_default
returns-in_default c = rw c.in_default.is at c.in_ok-found.ensures

pub returns : goal.returns
returns c = record {
  place = c.in-Some.found.place;
  fault = c.in-Some.found.fault;
  programless = rw c.in-Some.is at c.in_ok-found.ensures;
  begins = c.in_ok-program_refusal.ensures ∙ c.in_ok-at.ensures;
}
