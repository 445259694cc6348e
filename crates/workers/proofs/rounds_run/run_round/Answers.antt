use Rattle.std.proofs.Common.{◌≡◌, ℕ, ap, ◌∙◌, sym, subst, length, vec_len, List, All, arith}
use Rattle.std.specs.Prelude.{slice_get}
use Rattle.cycle_window.specs.declared.clocks.Clocks.{Clocks}
use Rattle.cycle_window.specs.Held.{ticks_in, end_in}
use Rattle.workers.specs.Between.{IsFilledFrom}
use Rattle.workers.specs.declared.worker.Published.{Published}
use Rattle.workers.specs.Runs.{upto}
use Rattle.workers.specs.Works.{HasLine}
use Rattle.workers.proofs.Rounding as laws
use Rattle.workers.proofs.rounds_run.run_round.Goals as goal

pub take_round-requires-clause-long : goal.take_round-requires-clause-long
take_round-requires-clause-long g c =
    let many : vec_len c.args.monitors ≡ length c.args.monitors.items = omega (arith, c.args.monitors.ok.0) in
    let order = c.in_ok-members.ensures.order ∙ ap (upto 0) many in
    laws.as-many c.args.job.now c.args.done c.args.next.now c.args.monitors.items c.args.lines.now.items
    c.requires.between c.requires.more c.requires.next c.in_ok-board.board c.in_ok-members.published.items order
    c.in_ok-members.ensures.published
    ∙ ap (λ (xs : List Published). length xs) (sym c.as_slice.ensures.value)

pub take_round-requires-clause-counted : goal.take_round-requires-clause-counted
take_round-requires-clause-counted g c =
    let many : vec_len c.args.monitors ≡ length c.args.monitors.items = omega (arith, c.args.monitors.ok.0) in
    let order = c.in_ok-members.ensures.order ∙ ap (upto 0) many in
    subst (All HasLine) (sym c.as_slice.ensures.value)
    (laws.counted c.args.job.now c.args.done c.args.next.now c.args.monitors.items c.args.lines.now.items
    c.requires.between c.requires.more c.requires.next c.in_ok-board.board c.in_ok-members.published.items order
    c.in_ok-members.ensures.published)

pub take_round-requires-clause-room : goal.take_round-requires-clause-room
take_round-requires-clause-room g c = λ i l p is at.
    let j = c.args.job.now in
    let v = c.args.done in
    let w = c.args.next.now in
    let many : vec_len c.args.monitors ≡ length c.args.monitors.items = omega (arith, c.args.monitors.ok.0) in
    let order = c.in_ok-members.ensures.order ∙ ap (upto 0) many in
    let room = laws.rooms j v w c.args.monitors.items c.args.lines.now.items c.requires.between c.requires.more
    c.requires.next c.in_ok-board.board c.in_ok-members.published.items order
    c.in_ok-members.ensures.published i l p is
    (ap (λ (xs : List Published). slice_get xs i) (sym c.as_slice.ensures.value) ∙ at) in
    omega (
      arith,
      room,
      c.requires.next.end,
      c.len-count.ensures,
      ap (λ (k : Clocks). length (ticks_in k)) c.clocks.ensures,
    )

pub returns-clause-between : goal.returns-clause-between
returns-clause-between g c =
    let j = c.args.job.now in
    let v = c.args.done in
    let w = c.args.next.now in
    let many : vec_len c.args.monitors ≡ length c.args.monitors.items = omega (arith, c.args.monitors.ok.0) in
    let order = c.in_ok-members.ensures.order ∙ ap (upto 0) many in
    laws.next j v w c.args.monitors.items c.args.lines.now.items c.requires.between c.requires.more
    c.requires.next c.in_ok-board.board c.in_ok-members.published.items order
    c.in_ok-members.ensures.published
    c.take_round.new.lines.items c.in_ok-monitors.monitors.items c.take_round.ensures.long
    (λ i l m p was at now. c.in_ok-take_round.ensures.took i l m p was
    (ap (λ (xs : List Published). slice_get xs i) c.as_slice.ensures.value ∙ at) now) c.in_ok-monitors.ensures

pub returns-clause-tallied : goal.returns-clause-tallied
returns-clause-tallied g c = λ k.
    let j = c.args.job.now in
    let v = c.args.done in
    let w = c.args.next.now in
    let many : vec_len c.args.monitors ≡ length c.args.monitors.items = omega (arith, c.args.monitors.ok.0) in
    let order = c.in_ok-members.ensures.order ∙ ap (upto 0) many in
    let more =
    laws.next-tallied j v w c.args.monitors.items c.args.lines.now.items c.requires.between c.requires.more
    c.requires.next c.in_ok-board.board c.in_ok-members.published.items order
    c.in_ok-members.ensures.published
    c.take_round.new.lines.items c.take_round.ensures.long
    (λ i l m p was at now. c.in_ok-take_round.ensures.took i l m p was
    (ap (λ (xs : List Published). slice_get xs i) c.as_slice.ensures.value ∙ at) now) k in
    omega (arith, more, c.in_ok-members.ensures.added k, c.requires.tallied k)

pub returns-clause-next : goal.returns-clause-next
returns-clause-next g c = λ more.
    let j = c.args.job.now in
    let after = c.in_ok-members.after in
    subst (λ (n : ℕ). IsFilledFrom j (end_in c.args.next.now) n after) (sym c.requires.next.same)
    (c.in_ok-members.ensures.beside more)
