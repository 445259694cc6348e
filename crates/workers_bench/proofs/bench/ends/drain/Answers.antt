use Rattle.std.proofs.Common.{◌≡◌, ◌+◌, ◌<◌, ap, ◌∙◌, subst, refl, length, arith, rules}
use Rattle.crossbeam_queue.specs.Passes.{view, IsPassOf}
use Rattle.workers_bench.specs.declared.numbered.Numbered.{Numbered}
use Rattle.workers_bench.specs.declared.passes.Round.{Round}
use Rattle.std.specs.Prelude.{Option}
use Rattle.workers_bench.specs.declared.passes.Hand.{Hand}
use Rattle.workers_bench.specs.Hands.{IsOfRound, total, numbers}
use Rattle.workers_bench.specs.Passes.{pass_parts, taken_of}
use Rattle.workers_bench.proofs.Keeps.{takes, leaves, left_count, none_left, total_push, weigh_pushed, all_pushed}
use Rattle.workers_bench.proofs.Keeps.{none_fail}
use Rattle.workers_bench.proofs.bench.ends.drain.Goals as goal

pub len_as-held-requires-clause-rule : goal.len_as-held-requires-clause-rule
len_as-held-requires-clause-rule g c = leaves _ _ c.requires.whole.1 c.requires.whole.0

pub loop-i-init : goal.loop-i-init
loop-i-init g c =
    let same = c.len_as-held.ensures.queue in let is = same.1 in let held =
    c.len_as-held.ensures.rule.1 in let empty = c.requires.room.0 in (
      (same.0.0 ∙ c.requires.of.0, same.0.2 ∙ c.requires.of.1),
      (ap (λ (v : Hand). v.parts) is ∙ c.requires.whole.0, ap (λ (v : Hand). v.puts) is ∙ c.requires.whole.1),
      (ap (λ (v : Hand). v.put) is, ap (λ (v : Hand). v.round) is),
      (λ h. omega (arith, ap (λ (v : Hand). total h v.taken) is, ap (λ l. total h (numbers l)) empty)),
      none_fail (IsOfRound (view c.args.pass).round) _ empty,
      (omega (arith, ap length empty), omega (arith, c.len_as-held.ensures.rule.0)),
      omega (
        arith,
        ap (λ (v : Hand). total (λ _. 1) v.taken) is,
        ap
            (λ (v : Hand). total (λ _. 1) v.put) is,
        left_count (view c.args.pass) held.0 held.2,
        held.1,
      ),
    )

pub pop_as-requires-clause-rule : goal.pop_as-requires-clause-rule
pop_as-requires-clause-rule g c = let was =
    c.loop-i.invariant in (takes _ _ (omega (arith, was.1.0)), leaves _ _ was.1.1 was.1.0)

pub loop-i-preserved : goal.loop-i-preserved
loop-i-preserved g c =
    let was = c.loop-i.invariant in
    let same = c.pop_as.ensures.queue in let told = c.in-Some.ensures.rule in let is = told.0 in
    let pushed = c.push_reserved.ensures.items in
    let x : Numbered = c.in-Some.monitor in
    let job : IsOfRound (view c.args.pass).round x = subst (λ (r : Option Round). IsOfRound r x) was.2.1 told.1 in (
      (same.0 ∙ was.0.0, same.2 ∙ was.0.1),
      (ap (λ (v : Hand). v.parts) is ∙ was.1.0, ap (λ (v : Hand). v.puts) is ∙ was.1.1),
      (ap (λ (v : Hand). v.put) is ∙ was.2.0, ap (λ (v : Hand). v.round) is ∙ was.2.1),
      (λ h. omega (
        arith,
        ap (λ (v : Hand). total h v.taken) is,
        total_push h
            (view c.loop-i.pass).taken _ x.number refl,
        weigh_pushed h _ _ _ pushed,
        was.3 h,
      )),
      all_pushed (IsOfRound (view c.args.pass).round) _ _ x pushed was.4 job,
      search rules,
      omega (
        arith,
        ap (λ (v : Hand). total (λ _. 1) v.taken) is,
        ap
            (λ (v : Hand). total (λ _. 1) v.put) is,
        total_push (λ _. 1)
            (view c.loop-i.pass).taken _ x.number refl,
        was.6,
      ),
    )

pub learn_as-requires-clause-rule : goal.learn_as-requires-clause-rule
learn_as-requires-clause-rule g c = let was = c.loop-i.invariant in leaves _ _ was.1.1 was.1.0

pub returns-clause-rest : goal.returns-clause-rest
returns-clause-rest g c =
    λ h.
    let was = c.loop-i.invariant in let left = c.learn_as.ensures.rule in
    let same = none_left (view c.loop-i.pass) left.0 left.1 (omega (arith, was.6)) h in
    omega (arith, ap (total h) was.2.0, was.3 h)
