use Rattle.std.proofs.Common.{◌<◌, length, arith}
use Rattle.std.specs.Prelude.{slice_index_or}
use Rattle.workers_core.proofs.CorePartLaws.{get-some}
use Rattle.workers_core.proofs.TakenLaws as laws
use Rattle.workers_core.proofs.published_lines.take_batch.Goals as goal

pub returns-then-batch-lines-clause-took : goal.returns-then-batch-lines-clause-took
returns-then-batch-lines-clause-took c = λ before all.
    laws.taken-none c.args.lines.now c.args.batch.now before (omega (arith, c.if-batch-lines.true))
    all

pub take_streaks-requires : goal.take_streaks-requires
take_streaks-requires c =
    let ls = c.args.lines.now in
    let b = c.args.batch.now in
    let d = c.index-lines-batch.result in
    let below : b.monitor < length ls = omega (arith, c.if-batch-lines.false) in
    c.requires (slice_index_or ls b.monitor d) (get-some ls b.monitor d below)

pub returns-clause-took : goal.returns-clause-took
returns-clause-took c = λ before all.
    let ls = c.args.lines.now in
    let b = c.args.batch.now in
    let d = c.index-lines-batch.result in
    let new = c.take_streaks.new.self in
    let below : b.monitor < length ls = omega (arith, c.if-batch-lines.false) in
    let at = get-some ls b.monitor d below in
    laws.ok-map c.take_streaks.result
    (λ took. laws.taken-set ls b new before all took)
    (c.take_streaks.ensures.took (before b.monitor) (all b.monitor (slice_index_or ls b.monitor d) at))
