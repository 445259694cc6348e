use Rattle.workers_core.proofs.CoreRoundLaws.{not-refused}
use Rattle.workers_core.proofs.core_rounds.take.Goals as goal

pub done-requires : goal.done-requires
done-requires c =
    not-refused c.args.core.now c.args.step c.step.new.self.state c.step.result c.requires.trace
    c.requires.allowed c.step.ensures.reply
