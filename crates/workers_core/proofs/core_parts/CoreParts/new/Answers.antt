use Rattle.std.proofs.Common.{◌≡◌, ℕ, None, [], map, replicate, ap, subst, ◌∙◌}
use Rattle.std.specs.List.{range_with_len}
use Rattle.workers_core.specs.Opening.{parts_from, opened_monitor}
use Rattle.workers_core.specs.Parts.{worker_state}
use Rattle.workers_core.proofs.StartLaws as laws
use Rattle.workers_core.proofs.core_parts.CoreParts.new.Goals as goal

pub returns : goal.returns
returns c = record {
  opened =
      let programs = c.as_slice.ensures.value in
      let ms = c.in_ok-monitors.monitors in
      laws.opened c.args.job.now c.args.team c.args.size _ c.in-Ok.ensures.first
      (c.in_ok-monitors.ensures.opened ∙ ap (map opened_monitor) programs)
      (c.in_ok-monitors.ensures.parts ∙ ap (parts_from 0) programs)
      c.in_ok-monitors.ensures.new
      (c.from.ensures.0 ∙ c.in_ok-waiting.ensures ∙ ap (range_with_len 0) (c.len.ensures ∙ ms.ok.0))
      (subst (λ (n : ℕ). map worker_state c.in_ok-workers.workers.items
      ≡ replicate n (record { hand = None; done = [] })) c.workers-count.ensures.same
      c.in_ok-workers.ensures)
      c.new.ensures.items;
}
