use Rattle.std.proofs.Common.{refl, ap, length, arith}
use Rattle.cycle_window.specs.declared.clocks.Clocks.{Clocks}
use Rattle.cycle_window.specs.Held.{ticks_in}
use Rattle.report_lines.specs.Shown.{data_of}
use Rattle.workers.proofs.ReportLaws.{reports, counted}
use Rattle.workers.proofs.report.report_run.Goals as goal

pub returns-clause-report : goal.returns-clause-report
returns-clause-report g c = λ k holds.
    let of = c.in_ok-job.ensures in
    reports c.in_ok-job.job c.args.dump c.in_ok-clocks.clocks k c.args.verified
    (data_of c.in_ok-report.report) of.programs of.dump of.clocks holds c.in_ok-clocks.ensures.clock of.fits
    (c.in_ok-report.ensures.report k)

pub returns-clause-count : goal.returns-clause-count
returns-clause-count g c =
    let of = c.in_ok-job.ensures in
    counted c.in_ok-job.job c.args.verified c.in_ok-report.report.lines.items (data_of c.in_ok-report.report)
    of.programs refl
    (omega (
      arith,
      c.len-count.type_inv,
      c.len-count.ensures,
      ap
          (λ (k : Clocks). length (ticks_in k)) c.clocks.ensures,
    ))
    c.in_ok-report.ensures.report c.in_ok-report.ensures.count
