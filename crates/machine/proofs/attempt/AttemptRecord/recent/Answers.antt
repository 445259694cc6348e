use Rattle.std.proofs.Common.{arith}
use Rattle.machine.proofs.BitLaws.{told-young, told-old, told-none}
use Rattle.machine.proofs.attempt.AttemptRecord.recent.Goals as goal

pub returns-then-age-le127 : goal.returns-then-age-le127
returns-then-age-le127 c = λ tick before late.
    told-young c.args.self.awaited c.args.self.start c.args.now tick c.requires before late
    (omega (arith, c.if-age-le127.true))

pub returns-then-age-lt255 : goal.returns-then-age-lt255
returns-then-age-lt255 c = λ tick before late.
    told-old c.args.self.awaited c.args.self.start c.args.now tick c.requires before late
    (omega (arith, c.if-age-le127.false))

pub returns-else-age-lt255 : goal.returns-else-age-lt255
returns-else-age-lt255 c = λ tick before late.
    told-none c.args.self.awaited c.args.self.start c.args.now tick c.requires before late (omega arith)
    (omega (arith, c.if-age-lt255.false))
