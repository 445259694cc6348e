-- The lines after the last clock.
use Rattle.std.proofs.Common.{◌≡◌, ◌+◌, List, ◌++◌, length, Some, refl, sym}
use Rattle.std.proofs.Common.{subst, arith, length-append}
use Rattle.std.specs.Prelude.{slice_get}
use Rattle.std.proofs.lemmas.List.{length-map}
use Rattle.signals.specs.declared.verdict.Decided.{Decided}
use Rattle.bytecode_programs.specs.Values.{ProgramData}
use Rattle.vcd_reader.specs.Dump.{Contents}
use Rattle.machine_checked.specs.Runs.{open_ones}
use Rattle.machine_batches.specs.Batches.{batch_of}
use Rattle.machine_batches.specs.Lines.{attempts_of}
use Rattle.workers_core.specs.declared.job.Job.{Job}
use Rattle.workers_core.specs.Opening.{monitor_part}
use Rattle.workers_core.specs.Values.{Says, job_value, rows_over}
use Rattle.workers_core.specs.declared.growing_line.GrowingLine.{GrowingLine}
use Rattle.workers_core.specs.Taken.{TookIn}
use Rattle.workers_core.proofs.RoundRunLaws.{ComesTo, comes-to}
use Rattle.workers_core.proofs.RoundLaws.{many-rows}
use Rattle.workers_core.proofs.CoreRoundLaws.{same-traced}
use Rattle.workers_core.proofs.LineLaws.{job-traced}
use Rattle.workers_bench.specs.declared.numbered.Numbered.{Numbered}
use Rattle.workers_bench.specs.Monitors.{IsMonitorAt}
use Rattle.workers.specs.Between.{clocks_of, IsTold}
use Rattle.workers.proofs.Telling.{program-at}

module _ (j : Job) (x : Numbered) (p : ProgramData) (h : IsMonitorAt j (clocks_of j) x)
    (is : slice_get j.programs.items x.number ≡ Some p) where
  rows-are : (c : Contents) → Says (job_value j) c → length (rows_over (job_value j) c p) ≡ clocks_of j
  rows-are c says = many-rows (job_value j) c p ((job-traced j).ticks c says)

  pub came : (c : Contents) → Says (job_value j) c
      → ComesTo p (rows_over (job_value j) c p) x.monitor.value.machine.state
      (batch_of p (rows_over (job_value j) c p) 0 (clocks_of j))
  came c says =
      let q = x.monitor.value.machine.program in
      let same : q ≡ p = program-at 0 j.programs.items x.number p (monitor_part x.monitor.value) is h.part in
      subst (λ (r : ProgramData). ComesTo r (rows_over (job_value j) c r) x.monitor.value.machine.state
      (batch_of r (rows_over (job_value j) c r) 0 (clocks_of j))) same
      (comes-to q h.accepted (rows_over (job_value j) c q) (clocks_of j) x.monitor.value.machine.state
      (batch_of q (rows_over (job_value j) c q) 0 (clocks_of j))
      (sym (many-rows (job_value j) c q ((job-traced j).ticks c says))) (h.state c says) refl)

  -- an attempt for each clock
  pub all-count : (c : Contents) → Says (job_value j) c
      → length (batch_of p (rows_over (job_value j) c p) 0 (clocks_of j)) + length
      (open_ones x.monitor.value.machine.state.standing.attempts) ≡ clocks_of j
  all-count c says =
      let live = x.monitor.value.machine.state.standing.attempts in
      let opened : length (open_ones live) ≡ length live = length-map live _ in
      omega (arith, opened, (came c says).count, rows-are c says)

  -- those of the line and those that are live are all
  pub line-count : (l : GrowingLine) → IsTold j (clocks_of j) x.number l
      → attempts_of l.counts + length (open_ones x.monitor.value.machine.state.standing.attempts) ≡ clocks_of j
  line-count l told =
      same-traced (job_value j) _ (clocks_of j) (job-traced j) (λ c says.
      let many = (told.took c says p is).many in
      omega (arith, all-count c says))

  pub more-count : (l new : GrowingLine) → IsTold j (clocks_of j) x.number l
      → ((before : List Decided) → TookIn l before
      → TookIn new (before ++ open_ones x.monitor.value.machine.state.standing.attempts)) → attempts_of new.counts
      ≡ clocks_of j
  more-count l new told took =
      same-traced (job_value j) _ (clocks_of j) (job-traced j) (λ c says.
      let before = batch_of p (rows_over (job_value j) c p) 0 (clocks_of j) in
      let live = open_ones x.monitor.value.machine.state.standing.attempts in
      let many = (took before (told.took c says p is)).many in
      omega (arith, length-append before live, all-count c says))
