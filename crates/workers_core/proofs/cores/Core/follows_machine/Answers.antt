use Rattle.std.proofs.Common.{subst}
use Rattle.workers_core.specs.Values.{CoreValue, Says}
use Rattle.workers_core.specs.Following.{FollowsMachine}
use Rattle.vcd_reader.specs.Dump.{Contents}
use Rattle.workers_core.proofs.FollowLaws.{core-follows}
use Rattle.workers_core.proofs.CoreLaws.{says-something}
use Rattle.workers_core.proofs.cores.Core.follows_machine.Goals as goal

pub returns : goal.returns
returns c = record {
  follows = λ k says. subst (λ (v : CoreValue). Says v.job k → FollowsMachine v k) c.self.view_is
      (λ (s : _). core-follows c.self.inside.job.now c.self.inside.parts k c.self.invariant s) says;
  says = subst (λ (v : CoreValue). ∥ ((k : Contents) × Says v.job k) ∥₁) c.self.view_is
      (says-something c.self.inside.job.now);
}
