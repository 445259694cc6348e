use Rattle.std.proofs.Common.{ap, ◌∙◌}
use Rattle.workers_core.specs.Opening.{parts_from}
use Rattle.workers.proofs.Telling.{first-at}
use Rattle.workers.proofs.opening.first_monitors.Goals as goal

pub returns-clause-start : goal.returns-clause-start
returns-clause-start c =
    first-at c.args.job.now c.in_ok-monitors.monitors.items c.in_ok-all.all.items _ (c.in_ok-monitors.ensures.parts
    ∙ ap (parts_from 0) c.programs.ensures) c.in_ok-monitors.ensures.new
    c.in_ok-all.ensures.monitors c.in_ok-all.ensures.order
