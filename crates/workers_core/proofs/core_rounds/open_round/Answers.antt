use Rattle.std.proofs.Common.{arith}
use Rattle.workers_core.specs.declared.step.Step.TheVariants as steps
use Rattle.workers_core.proofs.CoreRoundLaws as laws
use Rattle.workers_core.proofs.core_rounds.open_round.Goals as goal

pub take-requires-clause-allowed : goal.take-requires-clause-allowed
take-requires-clause-allowed c =
    let v = c.args.core.now in
    laws.allows (laws.Opened v.state) v steps.Slide
    (laws.sliding v c.requires.rests c.requires.more c.requires.some)

pub overflow_sub-result : goal.overflow_sub-result
overflow_sub-result c =
    let w =
    laws.opened-window c.args.core.now c.take.new.core c.requires.trace c.requires.rests
    c.requires.more c.requires.some c.in_ok-take.ensures.led c.take.ensures.job in
    omega (arith, w.0, c.window-first.ensures.first, c.window-first.ensures.end)

pub returns-clause-begun : goal.returns-clause-begun
returns-clause-begun c =
    laws.begun c.args.core.now c.take.new.core c.requires.rests c.requires.more c.requires.some
    c.in_ok-take.ensures.led c.take.ensures.job

pub returns-clause-clocks : goal.returns-clause-clocks
returns-clause-clocks c =
    let w =
    laws.opened-window c.args.core.now c.take.new.core c.requires.trace c.requires.rests
    c.requires.more c.requires.some c.in_ok-take.ensures.led c.take.ensures.job in
    omega (arith, w.0, c.window-first.ensures.first, c.window-first.ensures.end)

pub returns-clause-further : goal.returns-clause-further
returns-clause-further c =
    (laws.opened-window c.args.core.now c.take.new.core c.requires.trace c.requires.rests
    c.requires.more c.requires.some c.in_ok-take.ensures.led c.take.ensures.job).1
