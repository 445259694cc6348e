use Rattle.machine.proofs.FewLaws.{begun-of, opened-of}
use Rattle.machine.proofs.live.Live.move_on.Goals as goal

pub move_attempt-requires-clause-begun : goal.move_attempt-requires-clause-begun
move_attempt-requires-clause-begun c = begun-of _ 0 c.args.self.now.now _ c.requires.reached.attempts

pub move_obligation-requires-clause-begun : goal.move_obligation-requires-clause-begun
move_obligation-requires-clause-begun c = opened-of _ 0 c.args.self.now.now _ c.requires.reached.obligations
