use Rattle.std.proofs.Common.{◌≡◌, ℕ, List, All, length, ap, ◌∙◌, sym, subst, arith}
use Rattle.std.specs.Prelude.{slice_get}
use Rattle.cycle_window.specs.Held.{end_in}
use Rattle.workers_bench.specs.declared.numbered.Numbered.{Numbered}
use Rattle.workers_bench.specs.Monitors.{IsMonitorAt}
use Rattle.workers.specs.Between.{IsTold, IsBetween, clocks_of}
use Rattle.workers.proofs.Telling.{placed-monitor, none-told}
use Rattle.workers.proofs.Adding.{none-told-by, all-counts, four-held}
use Rattle.cycle_window.specs.declared.clocks.Clocks.{Clocks}
use Rattle.cycle_window.specs.Held.{ticks_in}
use Rattle.report_lines.specs.Lines.{LineData, ReportData, report_of}
use Rattle.report_lines.specs.Shown.{data_of}
use Rattle.workers_core.specs.Values.{job_value}
use Rattle.workers_core.specs.Lines.{AreLinesOf}
use Rattle.workers.specs.Tallied.{shared_by, lines_said}
use Rattle.workers.proofs.runs.run_in.Goals as goal

pub run_rounds-requires-clause-between : goal.run_rounds-requires-clause-between
run_rounds-requires-clause-between g c =
    let j = c.args.job.now in
    let first = c.in-Ok.ensures.first in
    let good = c.in-Ok.ensures.good in
    let ms = c.in_ok-monitors.monitors in
    let ls = c.in_ok-told.told in
    let between : IsBetween j c.in-Ok.window ms.items ls.items = record {
      window = record { of = first.of; places = first.places; fits = first.fits };
      size = (omega (arith, first.size, good.0), omega (arith, first.size, good.1));
      inside = omega (arith, first.end);
      order = c.in_ok-monitors.ensures.order;
      many = omega (arith, c.in_ok-monitors.ensures.count, ms.ok.0);
      at = subst (λ (n : ℕ). All (IsMonitorAt j n) ms.items) (sym first.end) c.in_ok-monitors.ensures.start;
      lines = omega (arith, c.in_ok-told.ensures.long, ls.ok.0, c.len.ensures, c.in_ok-monitors.ensures.count);
      told = λ i l is. subst (λ (n : ℕ). IsTold j n i l) (sym first.end)
          (none-told j i l (c.in_ok-told.ensures.none i l is));
    } in
    λ κs lives. between

pub run_rounds-requires-clause-tallied : goal.run_rounds-requires-clause-tallied
run_rounds-requires-clause-tallied g c = λ κs lives. λ k.
    c.in_ok-members.ensures.none k
    ∙ sym (none-told-by k c.in_ok-told.told.items (λ i l at. c.in_ok-told.ensures.none i l at))

pub lines_of-requires-clause-order : goal.lines_of-requires-clause-order
lines_of-requires-clause-order g c = λ i x is.
    let between = c.in_ok-members-2.ensures.between in
    placed-monitor c.in_ok-members-2.stopped.items (length c.args.job.now.programs.items) i x between.order
    (ap (λ (xs : List Numbered). slice_get xs i) (sym c.as_slice.ensures.value) ∙ is)

pub lines_of-requires-clause-at : goal.lines_of-requires-clause-at
lines_of-requires-clause-at g c =
    let j = c.args.job.now in
    let between = c.in_ok-members-2.ensures.between in
    let e : end_in c.in_ok-members-2._done ≡ clocks_of j =
    omega (arith, between.inside, c.in_ok-members-2.ensures.end) in
    subst (All (IsMonitorAt j (clocks_of j))) (sym c.as_slice.ensures.value)
    (subst (λ (n : ℕ). All (IsMonitorAt j n) c.in_ok-members-2.stopped.items) e between.at)

pub lines_of-requires-clause-told : goal.lines_of-requires-clause-told
lines_of-requires-clause-told g c = λ i l is.
    let j = c.args.job.now in
    let between = c.in_ok-members-2.ensures.between in
    let e : end_in c.in_ok-members-2._done ≡ clocks_of j =
    omega (arith, between.inside, c.in_ok-members-2.ensures.end) in
    subst (λ (n : ℕ). IsTold j n i l) e (between.told i l is)

pub report_with-requires : goal.report_with-requires
report_with-requires g c =
    let shares = c.in_ok-shares.shares.items in
    let lines = c.in_ok-lines.lines.items in
    c.total-totals.ensures
    ∙ four-held (λ (k : ℕ). shared_by k shares) (λ (k : ℕ). lines_said k lines)
    (λ k.
    c.in_ok-shares.ensures.added k
    ∙ (c.in_ok-members-2.ensures.tallied k ∙ sym (c.in_ok-lines.ensures.kinds k)))

pub returns-clause-report : goal.returns-clause-report
returns-clause-report g c = λ k says.
    let j = job_value c.args.job.now in
    let e = c.report_with.ensures in
    let lines = ap (λ (d : ReportData). d.lines) e in
    let count : c.len-2.result ≡ length (ticks_in c.args.job.now.clocks) =
    c.len-2.ensures ∙ ap (λ (x : Clocks). length (ticks_in x)) c.clocks.ensures in
    record {
      lines = subst (AreLinesOf j k) (sym lines) (c.in_ok-lines.ensures.lines k says);
      is = e ∙ (ap (λ (ds : List LineData). report_of c.len-2.result ds) (sym lines)
          ∙ ap (λ (n : ℕ). report_of n (data_of c.report_with.result).lines) count);
    }

pub returns-clause-count : goal.returns-clause-count
returns-clause-count g c =
    all-counts (clocks_of c.args.job.now) c.report_with.result.lines.items c.in_ok-lines.lines.items
    (ap (λ (d : ReportData). d.lines) c.report_with.ensures) c.in_ok-lines.ensures.count
