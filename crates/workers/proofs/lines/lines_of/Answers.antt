use Rattle.std.proofs.Common.{◌≡◌, ◌+◌, ◌<◌, ◌≤◌, ◌++◌, ◌∷◌, [], List, Some, length, take, sym, ap, ◌∙◌, subst}
use Rattle.std.proofs.Common.{arith}
use Rattle.std.specs.Prelude.{slice_get, slice_index_or}
use Rattle.std.proofs.lemmas.List.{length-set}
use Rattle.std.proofs.lemmas.List.Elements.{All-push, All-same}
use Rattle.bytecode_programs.specs.Values.{ProgramData}
use Rattle.report_lines.specs.declared.line.Line.{Line}
use Rattle.report_lines.specs.Lines.{LineData, line}
use Rattle.machine_batches.specs.Lines.{IsLineOver, attempts_of}
use Rattle.workers_core.specs.Values.{job_value, rows_over}
use Rattle.workers_core.proofs.CorePartLaws.{get-some}
use Rattle.workers_core.specs.declared.growing_line.GrowingLine.{GrowingLine}
use Rattle.workers_core.proofs.LineLaws.{line-more}
use Rattle.workers_core.proofs.TakenLaws.{each-but}
use Rattle.workers_bench.specs.declared.numbered.Numbered.{Numbered}
use Rattle.workers_bench.specs.Monitors.{IsMonitorAt}
use Rattle.workers.specs.Between.{IsTold, clocks_of}
use Rattle.workers.specs.Tallied.{told_by}
use Rattle.workers.proofs.Telling.{all-at, get-other}
use Rattle.workers.proofs.Adding.{said-more, take-length}
use Rattle.workers.proofs.lines.lines_of.Goals as goal

pub program_line-requires-clause-program : goal.program_line-requires-clause-program
program_line-requires-clause-program c =
    let ps = c.args.programs.now in
    let n = c.loop-number.number in
    let p = c.index-programs-number.result in
    let x = c.index-stopped-number.result in
    let below : n < length ps = omega arith in
    let all : length ps ≡ length c.args.job.now.programs.items =
    ap (λ (qs : List ProgramData). length qs) c.requires.programs in
    let at : slice_get c.args.stopped.now n ≡ Some x =
    get-some c.args.stopped.now n x (omega (arith, below, all, c.requires.many))
    ∙ ap (λ (y : Numbered). Some y) (sym c.index-stopped-number.is) in
    ap (slice_get c.args.job.now.programs.items) (c.requires.order n x at)
    ∙ ap (λ (qs : List ProgramData). slice_get qs n) (sym c.requires.programs) ∙ get-some ps n p below
    ∙ ap (λ (q : ProgramData). Some q) (sym c.index-programs-number.is)

pub program_line-requires-clause-told : goal.program_line-requires-clause-told
program_line-requires-clause-told c =
    let j = c.args.job.now in
    let ps = c.args.programs.now in
    let n = c.loop-number.number in
    let xs = c.loop-number.told.items in
    let m = c.index_mut.result.now in
    let x = c.index-stopped-number.result in
    let below : n < length ps = omega arith in
    let all : length ps ≡ length j.programs.items = ap (λ (qs : List ProgramData). length qs) c.requires.programs in
    let at : slice_get c.args.stopped.now n ≡ Some x =
    get-some c.args.stopped.now n x (omega (arith, below, all, c.requires.many))
    ∙ ap (λ (y : Numbered). Some y) (sym c.index-stopped-number.is) in
    subst (λ k. IsTold j (clocks_of j) k c.replace-own.result) (sym (c.requires.order n x at))
    (subst (λ (l : GrowingLine). IsTold j (clocks_of j) n l)
    (sym (c.replace-own.ensures.value ∙ c.index_mut.ensures.value))
    (c.loop-number.invariant.rest n (slice_index_or xs n m) (omega arith)
    (get-some xs n m (omega (arith, below, c.loop-number.invariant.long)))))

pub program_line-requires-clause-at : goal.program_line-requires-clause-at
program_line-requires-clause-at c =
    let j = c.args.job.now in
    let n = c.loop-number.number in
    let x = c.index-stopped-number.result in
    let below : n < length c.args.programs.now = omega arith in
    let all : length c.args.programs.now ≡ length j.programs.items =
    ap (λ (qs : List ProgramData). length qs) c.requires.programs in
    let at : slice_get c.args.stopped.now n ≡ Some x =
    get-some c.args.stopped.now n x (omega (arith, below, all, c.requires.many))
    ∙ ap (λ (y : Numbered). Some y) (sym c.index-stopped-number.is) in
    all-at (IsMonitorAt j (clocks_of j)) c.args.stopped.now n x c.requires.at at

pub loop-number-preserved : goal.loop-number-preserved
loop-number-preserved c =
    let j = c.args.job.now in
    let ps = c.args.programs.now in
    let ls = c.loop-number.lines.items in
    let new = c.push.new.self.items in
    let l = c.in_ok-program_line.field-0 in
    let p = c.index-programs-number.result in
    let count = λ (x : Line). attempts_of x.counts ≡ clocks_of j in
    let xs = c.loop-number.told.items in
    let i = c.loop-number.number in
    record {
      lines = λ k says.
          line-more (λ (q : ProgramData) (x : LineData). IsLineOver q (rows_over (job_value j) k q) x) line ps
          c.loop-number.number p ls new l (omega arith) c.index-programs-number.is
          c.in_ok-push.ensures.items
          (c.loop-number.invariant.lines k says) (c.in_ok-program_line.ensures.line k says);
      count = All-same count new (ls ++ l ∷ []) c.in_ok-push.ensures.items
          (All-push count ls l c.loop-number.invariant.count c.in_ok-program_line.ensures.count);
      long = length-set xs i c.replace-own.new.dest ∙ c.loop-number.invariant.long;
      rest = λ n x low at.
          each-but (λ k y. i + 1 ≤ k → IsTold j (clocks_of j) k y) xs i
          c.replace-own.new.dest
          (λ k y other e least. c.loop-number.invariant.rest k y (omega (arith, least)) e)
          (λ least. absurd (omega (arith, least))) n x at low;
      same = λ n low.
          get-other xs i n c.replace-own.new.dest (λ e. omega (arith, e, low))
          ∙ c.loop-number.invariant.same n (omega (arith, low));
      kinds = λ k.
          let own : slice_get xs i ≡ Some c.replace-own.result =
          get-some xs i c.index_mut.result.now (omega (arith, c.loop-number.invariant.long))
          ∙ ap (λ (y : GrowingLine). Some y) (sym (c.replace-own.ensures.value ∙ c.index_mut.ensures.value)) in
          said-more k ls new l c.args.told.items i c.replace-own.result c.in_ok-push.ensures.items
          (sym (c.loop-number.invariant.same i (omega arith)) ∙ own)
          (c.in_ok-program_line.ensures.kinds k) (c.loop-number.invariant.kinds k);
    }

pub returns-clause-kinds : goal.returns-clause-kinds
returns-clause-kinds c = λ k.
    let n = c.loop-number.number in
    let ts = c.args.told.items in
    let all : take n ts ≡ ts =
    take-length n ts (omega (
      arith,
      c.requires.lines,
      c.loop-number-test.false,
      ap (λ (qs : List ProgramData). length qs) c.requires.programs,
    )) in
    c.loop-number.invariant.kinds k ∙ ap (told_by k) all
