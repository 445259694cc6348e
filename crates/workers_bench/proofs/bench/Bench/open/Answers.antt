use Rattle.std.proofs.Common.{◌≡◌, ◌+◌, ◌-◌, true, ap, ◌∙◌, sym, inl, inr, ⊎_elim, arith, rules}
use Rattle.std.proofs.lemmas.List.Elements.{All-push, All-same}
use Rattle.crossbeam_queue.specs.Passes.{view, IsPassOf}
use Rattle.workers_bench.specs.declared.passes.Hand.{Hand}
use Rattle.workers_bench.specs.Hands.{whole, fresh}
use Rattle.workers_bench.specs.Passes.{TakesNone}
use Rattle.workers_bench.proofs.Keeps.{begins, deals}
use Rattle.workers_bench.proofs.bench.Bench.open.Goals as goal

pub ruled-requires-clause-rule : goal.ruled-requires-clause-rule
ruled-requires-clause-rule g c = begins

pub another-requires-clause-rule : goal.another-requires-clause-rule
another-requires-clause-rule g c =
    let is = c.loop-i.invariant.1 in
    let parts : (view c.loop-i.pass).parts ≡ whole - c.loop-i._i = ap (λ (v : Hand). v.parts) is in
    deals _ _ _ (omega arith) (ap (λ (v : Hand). v.puts) is) (ap (λ (v : Hand). v.put) is)
    (ap (λ (v : Hand). v.taken) is) (⊎_elim (λ first. inl (omega arith)) inr c.loop-i.invariant.2)

pub loop-i-preserved : goal.loop-i-preserved
loop-i-preserved g c =
    let was = c.loop-i.invariant in
    let told = c.another.ensures.rule in let same = c.another.ensures.queue in
    let before : (view c.loop-i.pass).parts ≡ whole - c.loop-i._i = ap (λ (v : Hand). v.parts) was.1 in
    let parts : (view c.loop-i.pass).parts - 1 ≡ whole - (c.loop-i._i + 1) = omega arith in
    let round = ap (λ (v : Hand). v.round) told.0 in (
      (same.0.0 ∙ was.0.0, same.0.2 ∙ was.0.1),
      told.0 ∙ (λ k. fresh (parts k) true (sym round k)),
      inr round,
      search rules,
      search rules,
      All-same (λ pass. IsPassOf c.in_ok-queue.queue pass
          × TakesNone g.K.Rounding.round pass) _ _ c.push_reserved.ensures.items
          (All-push (λ pass. IsPassOf c.in_ok-queue.queue pass
          × TakesNone g.K.Rounding.round pass) _ _ was.5 (same.1, told.1)),
    )
