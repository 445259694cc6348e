use Rattle.std.proofs.Common.{◌∙◌, ℕ, ap, sym, subst}
use Rattle.workers_core.specs.Values.{CoreValue, job_value, opening_core}
use Rattle.workers_core.specs.Rounds.{HasTrace, Rests}
use Rattle.workers_core.proofs.CoreRoundLaws.{opening-rests}
use Rattle.workers_core.proofs.LineLaws.{job-traced}
use Rattle.workers_core.proofs.lines.job_lines.Goals as goal

pub drive-requires-clause-trace : goal.drive-requires-clause-trace
drive-requires-clause-trace c =
    subst (λ (v : CoreValue). HasTrace v.job) (sym c.in_ok-core.ensures)
    (job-traced c.args.job.now)

pub drive-requires-clause-rests : goal.drive-requires-clause-rests
drive-requires-clause-rests c =
    let j = job_value c.args.job.now in
    subst Rests (sym c.in_ok-core.ensures)
    (subst (λ (n : ℕ). Rests (opening_core j n c.args.size)) (sym c.one.ensures)
    (opening-rests j c.args.size))

pub lines_of-requires-clause-trace : goal.lines_of-requires-clause-trace
lines_of-requires-clause-trace c =
    subst HasTrace
    (sym (c.drive.ensures.job ∙ ap (λ (v : CoreValue). v.job) c.in_ok-core.ensures))
    (job-traced c.args.job.now)
