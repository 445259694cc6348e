use Rattle.std.proofs.Common.{◌-◌, ℕ, ap, arith}
use Rattle.attempt_pool.proofs.FilledLaws.{count_is}
use Rattle.attempt_pool.proofs.nodes.Nodes.cap.Goals as goal

pub overflow_sub-result : goal.overflow_sub-result
overflow_sub-result g c =
    let e = count_is _ _ c.self.invariant.0 _ c.self.view_is in let some = c.requires in omega arith

pub returns : goal.returns
returns g c = ap (λ (k : ℕ). k - 1) (count_is _ _ c.self.invariant.0 _ c.self.view_is)
