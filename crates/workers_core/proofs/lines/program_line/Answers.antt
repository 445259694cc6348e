use Rattle.std.proofs.Common.{
  ◌+◌,
  ◌^◌,
  ◌++◌,
  ℕ,
  List,
  suc,
  length,
  ap,
  ◌∙◌,
  subst,
  refl,
  arith,
  length-append,
}
use Rattle.std.proofs.lemmas.Option.{slice_get_within}
use Rattle.signals.specs.declared.verdict.Decided.{Decided}
use Rattle.bytecode_programs.specs.Values.{ProgramData}
use Rattle.machine_checked.specs.Runs.{open_ones}
use Rattle.machine_batches.specs.Lines.{line_over, attempts_of}
use Rattle.workers_core.specs.States.{published_by}
use Rattle.workers_core.specs.Taken.{TookIn}
use Rattle.workers_core.proofs.CoreRoundLaws.{less-traced, same-traced}
use Rattle.workers_core.proofs.LineLaws as laws
use Rattle.workers_core.proofs.lines.program_line.Goals as goal

pub open_attempts-live-requires : goal.open_attempts-live-requires
open_attempts-live-requires c =
    let v = c.args.core.now in
    less-traced v.job (suc c.args.number) (length v.state.monitors) c.requires.trace
    (λ k says. omega (
      arith,
      (c.requires.rests k says).many,
      slice_get_within v.job.programs c.args.number c.args.verified.now c.requires.program,
    ))

pub take_in-requires : goal.take_in-requires
take_in-requires c =
    let v = c.args.core.now in
    let i = c.args.number in
    let p = c.args.verified.now in
    let published = published_by v.state.board i in
    let many = c.requires.took.many in
    less-traced v.job (suc (attempts_of c.args.published.counts + length c.as_slice.result.now))
    (2 ^ 64) c.requires.trace
    (λ k says.
    let h =
    laws.over v k i p (c.requires.trace.ticks k says) (c.follows_machine.ensures.follows k says)
    (c.requires.rests k says) c.requires.end c.requires.program in
    let live = open_ones h.monitor.state.standing.attempts in
    let all = laws.over-count v k i p (published ++ live) (c.requires.trace.ticks k says) h refl in
    let slice =
    ap (λ (ds : List Decided). length ds)
    (c.as_slice.ensures.value ∙ c.open_attempts-live.ensures h.monitor h.at) in
    let both = length-append published live in
    omega (arith, many, all, slice, both, c.clocks-clocks.ensures))

pub returns-clause-line : goal.returns-clause-line
returns-clause-line c k says =
    let v = c.args.core.now in
    let i = c.args.number in
    let p = c.args.verified.now in
    let h =
    laws.over v k i p (c.requires.trace.ticks k says) (c.follows_machine.ensures.follows k says)
    (c.requires.rests k says) c.requires.end c.requires.program in
    let published = published_by v.state.board i in
    let live = open_ones h.monitor.state.standing.attempts in
    let named =
    c.in_ok-name.ensures.ok ∙ c.as_str.ensures.value
    ∙ ap (λ (q : ProgramData). q.header.name) c.program.ensures.same in
    let took =
    subst (λ (ds : List Decided). TookIn c.take_in.new.self (published ++ ds))
    (c.as_slice.ensures.value ∙ c.open_attempts-live.ensures h.monitor h.at)
    (c.in_ok-take_in.ensures.took published c.requires.took) in
    laws.over-line v k i p _ (published ++ live) h refl
    (c.into_line.ensures.line (published ++ live) took
    ∙ ap (λ (n : List ℕ). line_over n (published ++ live)) named)

pub returns-clause-count : goal.returns-clause-count
returns-clause-count c =
    let v = c.args.core.now in
    let i = c.args.number in
    let p = c.args.verified.now in
    let published = published_by v.state.board i in
    let took = c.in_ok-take_in.ensures.took published c.requires.took in
    ap attempts_of c.into_line.ensures.counts
    ∙ took.many
    ∙ same-traced v.job _ (length v.job.ticks) c.requires.trace
    (λ k says.
    let h =
    laws.over v k i p (c.requires.trace.ticks k says) (c.follows_machine.ensures.follows k says)
    (c.requires.rests k says) c.requires.end c.requires.program in
    let slice = c.as_slice.ensures.value ∙ c.open_attempts-live.ensures h.monitor h.at in
    laws.over-count v k i p (published ++ c.as_slice.result.now) (c.requires.trace.ticks k says) h
    (ap (λ (ds : List Decided). published ++ ds) slice))
