use Rattle.std.proofs.Common.{
  ◌≡◌,
  ◌+◌,
  ◌<◌,
  ◌≤◌,
  ◌^◌,
  ◌++◌,
  ◌∷◌,
  [],
  List,
  Some,
  suc,
  length,
  refl,
  sym,
  ap,
  ◌∙◌,
  subst,
  arith,
  length-append,
}
use Rattle.std.specs.Prelude.{slice_get, slice_index_or}
use Rattle.std.proofs.lemmas.List.{length-set}
use Rattle.std.proofs.lemmas.List.Elements.{All-push, All-same}
use Rattle.bytecode_programs.specs.Values.{ProgramData}
use Rattle.machine_checked.specs.Runs.{open_ones}
use Rattle.report_lines.specs.declared.line.Line.{Line}
use Rattle.report_lines.specs.Lines.{LineData, line}
use Rattle.machine_batches.specs.Lines.{IsLineOver, attempts_of}
use Rattle.workers_core.specs.States.{BatchState, published_by}
use Rattle.workers_core.specs.Values.{rows_over}
use Rattle.workers_core.proofs.CorePartLaws.{get-some}
use Rattle.workers_core.specs.declared.growing_line.GrowingLine.{GrowingLine}
use Rattle.workers_core.specs.Taken.{TookIn}
use Rattle.workers_core.proofs.CoreRoundLaws.{less-traced}
use Rattle.workers_core.proofs.LineLaws as laws
use Rattle.workers_core.proofs.LineLaws.{line-more}
use Rattle.workers_core.proofs.TakenLaws.{some-at, each-but}
use Rattle.workers_core.proofs.lines.lines_of.Goals as goal

pub lines_published-requires : goal.lines_published-requires
lines_published-requires c = λ i below.
    let v = c.args.core.now in
    let published = published_by v.state.board i in
    let there =
    some-at v.job.programs i
    (omega (arith, below, ap (λ (ps : List ProgramData). length ps) c.requires.programs)) in
    let few : length published < 2 ^ 64 =
    less-traced v.job (suc (length published)) (2 ^ 64) c.requires.trace
    (λ k says.
    let h =
    laws.over v k i there.0 (c.requires.trace.ticks k says)
    (c.follows_machine.ensures.follows k says) (c.requires.rests k says) c.requires.end
    there.1 in
    let live = open_ones h.monitor.state.standing.attempts in
    let all =
    laws.over-count v k i there.0 (published ++ live) (c.requires.trace.ticks k says) h refl in
    omega (arith, all, length-append published live, c.clocks-clocks.ensures)) in
    subst (λ (bs : List BatchState). length (published_by bs i) < 2 ^ 64) (sym c.board.ensures) few

pub program_line-requires-clause-program : goal.program_line-requires-clause-program
program_line-requires-clause-program c =
    let ps = c.args.programs.now in
    let i = c.loop-number.number in
    let p = c.index-programs-number.result in
    let below : i < length ps = omega arith in
    ap (λ (qs : List ProgramData). slice_get qs i) (sym c.requires.programs) ∙ get-some ps i p below
    ∙ ap (λ (q : ProgramData). Some q) (sym c.index-programs-number.is)

pub program_line-requires-clause-took : goal.program_line-requires-clause-took
program_line-requires-clause-took c =
    let xs = c.loop-number.published.items in
    let i = c.loop-number.number in
    let m = c.index_mut.result.now in
    let inside : i < length c.args.programs.now = omega arith in
    let below : i < length xs = omega (arith, inside, c.loop-number.invariant.long) in
    subst (λ (l : GrowingLine). TookIn l (published_by c.args.core.now.state.board i))
    (sym (c.replace-own.ensures.value ∙ c.index_mut.ensures.value))
    (c.loop-number.invariant.rest i (slice_index_or xs i m) (omega arith) (get-some xs i m below))

pub loop-number-preserved : goal.loop-number-preserved
loop-number-preserved c =
    let j = c.args.core.now.job in
    let ps = c.args.programs.now in
    let ls = c.loop-number.lines.items in
    let new = c.push.new.self.items in
    let l = c.in_ok-program_line.field-0 in
    let p = c.index-programs-number.result in
    let count = λ (x : Line). attempts_of x.counts ≡ length j.ticks in
    let xs = c.loop-number.published.items in
    let i = c.loop-number.number in
    record {
      lines = λ k says.
          line-more (λ (q : ProgramData) (x : LineData). IsLineOver q (rows_over j k q) x) line ps
          c.loop-number.number p ls new l (omega arith) c.index-programs-number.is
          c.in_ok-push.ensures.items
          (c.loop-number.invariant.lines k says) (c.in_ok-program_line.ensures.line k says);
      count = All-same count new (ls ++ l ∷ []) c.in_ok-push.ensures.items
          (All-push count ls l c.loop-number.invariant.count c.in_ok-program_line.ensures.count);
      long = length-set xs i c.replace-own.new.dest ∙ c.loop-number.invariant.long;
      rest = λ n x low at.
          each-but (λ k y. i + 1 ≤ k → TookIn y (published_by c.args.core.now.state.board k)) xs i
          c.replace-own.new.dest
          (λ k y other e least. c.loop-number.invariant.rest k y (omega (arith, least)) e)
          (λ least. absurd (omega (arith, least))) n x at low;
    }
