use Rattle.std.proofs.Common.{◌≡◌, ◌+◌, ◌<◌, ap, ◌∙◌, arith}
use Rattle.crossbeam_queue.specs.Passes.{view, IsPassOf}
use Rattle.workers_bench.specs.declared.passes.Hand.{Hand}
use Rattle.workers_bench.specs.Hands.{total}
use Rattle.workers_bench.specs.Passes.{pass_parts, taken_of}
use Rattle.workers_bench.proofs.Keeps.{merges, total-append, total_push, all_popped}
use Rattle.workers_bench.proofs.bench.ends.gather.Goals as goal

pub absorb-requires-clause-rule : goal.absorb-requires-clause-rule
absorb-requires-clause-rule c = merges _ _ _ _ c.loop-other.invariant.1.0 c.loop-other.invariant.1.1

pub loop-other-preserved : goal.loop-other-preserved
loop-other-preserved c =
    let was = c.loop-other.invariant in
    let same = c.absorb.ensures.queue in let told = c.absorb.ensures.rule in
    let popped = c.in-Some.ensures.items in
    let parts : pass_parts c.absorb.new.pass ≡ pass_parts c.loop-other.pass + pass_parts c.in-Some.other =
    ap (λ (v : Hand). v.parts) told in (
      ((same.0 ∙ was.0.0.0, same.2 ∙ was.0.0.1), (all_popped (IsPassOf c.args.queue.now) _ _ _ popped was.0.1).0),
      (ap (λ (v : Hand). v.puts) told ∙ was.1.0, omega arith),
      omega (arith, total_push pass_parts _ _ _ popped),
      (ap (λ (v : Hand). v.put) told ∙ was.3.0, ap (λ (v : Hand). v.round) told ∙ was.3.1),
      λ h.
          let taken : taken_of h c.absorb.new.pass ≡ taken_of h c.loop-other.pass + taken_of h c.in-Some.other =
          ap (λ (v : Hand). total h v.taken) told
          ∙ total-append h (view c.loop-other.pass).taken (view c.in-Some.other).taken in
          omega (arith, total_push (taken_of h) _ _ _ popped, was.4 h),
    )
