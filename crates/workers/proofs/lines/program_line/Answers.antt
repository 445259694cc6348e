use Rattle.std.proofs.Common.{◌≤◌, ◌++◌, List, length, ap, ◌∙◌, sym, subst, arith}
use Rattle.signals.specs.declared.verdict.Decided.{Decided}
use Rattle.bytecode_programs.specs.Values.{ProgramData}
use Rattle.machine_checked.specs.Runs.{open_ones}
use Rattle.cycle_window.specs.declared.clocks.Clocks.{Clocks}
use Rattle.cycle_window.specs.Held.{ticks_in}
use Rattle.machine_batches.specs.Batches.{batch_of}
use Rattle.machine_batches.specs.Lines.{line_over, attempts_of}
use Rattle.workers_core.specs.Values.{job_value, rows_over}
use Rattle.workers_core.specs.Taken.{TookIn}
use Rattle.workers_core.specs.declared.monitor.Monitor.{Monitor}
use Rattle.workers.specs.Between.{clocks_of}
use Rattle.workers.specs.Tallied.{count_in}
use Rattle.workers.proofs.Adding.{end-count}
use Rattle.workers.proofs.Ending as laws
use Rattle.workers.proofs.lines.program_line.Goals as goal

pub open_attempts-live-requires : goal.open_attempts-live-requires
open_attempts-live-requires c =
    subst (λ (m : Monitor). m.machine.program.header.limits.attempts ≤ 1024)
    (sym c.deref.ensures) c.requires.at.accepted.room.attempts

pub take_in-requires : goal.take_in-requires
take_in-requires c =
    let all = laws.line-count c.args.job.now c.args.stopped.now c.args.verified.now c.requires.at c.requires.program
    c.args.told c.requires.told in
    let slice = ap (λ (ds : List Decided). length ds) (c.as_slice.ensures.value ∙ c.open_attempts-live.ensures
    ∙ ap (λ (m : Monitor). open_ones m.machine.state.standing.attempts) c.deref.ensures) in
    omega (arith, all, slice, c.len-count.ensures, ap (λ (k : Clocks). length (ticks_in k)) c.clocks.ensures)

pub returns-clause-line : goal.returns-clause-line
returns-clause-line c = λ k says.
    let j = c.args.job.now in
    let x = c.args.stopped.now in
    let p = c.args.verified.now in
    let came = laws.came j x p c.requires.at c.requires.program k says in
    let before = batch_of p (rows_over (job_value j) k p) 0 (clocks_of j) in
    let live = open_ones x.monitor.value.machine.state.standing.attempts in
    let named =
    c.in_ok-name.ensures.ok ∙ c.as_str.ensures.value
    ∙ ap (λ (q : ProgramData). q.header.name) c.program.ensures.same in
    let took =
    subst (λ (ds : List Decided). TookIn c.take_in.new.self (before ++ ds))
    (c.as_slice.ensures.value ∙ c.open_attempts-live.ensures
    ∙ ap (λ (m : Monitor). open_ones m.machine.state.standing.attempts) c.deref.ensures)
    (c.in_ok-take_in.ensures.took before (c.requires.told.took k says p c.requires.program)) in
    record {
      decided = before;
      last = x.monitor.value.machine.state;
      ran = came.decides;
      is = c.into_line.ensures.line (before ++ live) took ∙ ap (λ n. line_over n (before ++ live)) named;
    }

pub returns-clause-count : goal.returns-clause-count
returns-clause-count c =
    let j = c.args.job.now in
    let x = c.args.stopped.now in
    ap attempts_of c.into_line.ensures.counts
    ∙ laws.more-count j x c.args.verified.now c.requires.at c.requires.program c.args.told c.take_in.new.self
    c.requires.told
    (λ before took. subst (λ (ds : List Decided). TookIn c.take_in.new.self (before ++ ds))
    (c.as_slice.ensures.value ∙ c.open_attempts-live.ensures
    ∙ ap (λ (m : Monitor). open_ones m.machine.state.standing.attempts) c.deref.ensures)
    (c.in_ok-take_in.ensures.took before took))

pub returns-clause-kinds : goal.returns-clause-kinds
returns-clause-kinds c = λ k.
    let j = c.args.job.now in
    let x = c.args.stopped.now in
    let live = x.monitor.value.machine.state.standing.attempts in
    ap (count_in k) c.into_line.ensures.counts
    ∙ end-count j (clocks_of j) x.number c.args.told c.take_in.new.self c.args.verified.now live c.requires.told
    c.requires.program
    (λ before took. subst (λ (ds : List Decided). TookIn c.take_in.new.self (before ++ ds))
    (c.as_slice.ensures.value ∙ c.open_attempts-live.ensures
    ∙ ap (λ (m : Monitor). open_ones m.machine.state.standing.attempts) c.deref.ensures)
    (c.in_ok-take_in.ensures.took before took)) k
