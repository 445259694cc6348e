use Rattle.std.proofs.Common.{ap, ◌∙◌}
use Rattle.verifier.specs.Programs.{least_limits}
use Rattle.verifier.proofs.verified.Verified.least_limits.Goals as goal

pub returns : goal.returns
returns c = c.self.invariant.is_least ∙ ap least_limits c.self.view_is
