use Rattle.cli.proofs.WaveLaws.{shown}
use Rattle.cli.proofs.waves.failures_over.Goals as goal

pub returns-clause-ok : goal.returns-clause-ok
returns-clause-ok g c = λ k holds.
    shown k c.args.text.now c.args.wanted.now c.in_ok-explained.explained c.args.waveform.now c.in_ok-shown_of.field-0
    (c.in_ok-explained.ensures.ok k holds) c.in_ok-shown_of.ensures
